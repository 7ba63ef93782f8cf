-- Room for one more frame in a ring of n frames.
use Rattle.std.specs.Prelude.{◌≡◌, List, ◌∷◌, ◌++◌, ℕ, suc, ◌≤◌, ◌<◌, length, take, drop}
use Rattle.rules.specs.Frames.{Frame}
use Rattle.queue.specs.Place.{frame_of}
use Rattle.queue.specs.Ring.{at, tab}

-- the places now are as many as before, and hold the n that were: those before the j-th in their order from the head on, the others one place further
pub record Gap (head cap n : ℕ) (before : List (List ℕ)) (was : ℕ → List ℕ) (now : List (List ℕ)) (j : ℕ) : Type 0 where
  pub as_many : length now ≡ length before
  pub inside : j ≤ n
  pub low : (k : ℕ) → k < j → at head cap now k ≡ was k
  pub high : (k : ℕ) → j ≤ k → k < n → at head cap now (suc k) ≡ was k

-- a list with one more element, at place j
abbrev pub inserted_at : {A : Type 0} → ℕ → A → List A → List A
inserted_at j x xs = take j xs ++ (x ∷ drop j xs)

-- and the gap is where a frame of this ID is put
pub record Opened (put : Frame → List Frame → List Frame) (head cap n id : ℕ) (before : List (List ℕ)) (was : ℕ → List ℕ) (now : List (List ℕ)) (j : ℕ) : Type 0 where
  pub gap : Gap head cap n before was now j
  pub there : (f : Frame) → f.id ≡ id → put f (tab n (λ k. frame_of (was k))) ≡ inserted_at j f (tab n (λ k. frame_of (was k)))
