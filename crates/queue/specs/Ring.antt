-- A ring of `cap` places that starts at `head`: after the last place comes the first again.
use Rattle.std.specs.Prelude.{List, [], ◌∷◌, cond, ℕ, zero, suc, ◌+◌, ◌-◌, ltb, get_or}

-- the index of the k-th place
unfoldable pub slot_of : ℕ → ℕ → ℕ → ℕ
slot_of head cap k = cond (ltb (head + k) cap) (head + k) (head + k - cap)

-- the index of the place before that at index p
abbrev pub one_back : ℕ → ℕ → ℕ
one_back p cap = slot_of p cap (cap - 1)

-- what stands in the k-th place
abbrev pub at : ℕ → ℕ → List (List ℕ) → ℕ → List ℕ
at head cap places k = get_or places (slot_of head cap k) []

-- the list of f 0, f 1, .., f (n - 1)
abbrev pub tab : {A : Type 0} → ℕ → (ℕ → A) → List A
tab zero f = []
tab (suc n) f = f 0 ∷ tab n (λ k. f (suc k))
