-- Demand 3 and what goes beyond it, of the code: a run of `accept` calls over any lent words and store is a run of the book's receiver (the tie), so what is
-- heard after a history, the slots and the store are the book's, and each statement holds of them as it stands.
use mathlib.Core.Path.{◌≡◌, sym, ap, fun_ext, subst, subst₂, ◌∙◌}
use Prim.Native.Nat.{ℕ, ◌*◌, ◌≤◌}
use lib.ListN.{length, length-map}
use Rattle.rules.specs.declared.subscription.Settings.{Settings}
use Rattle.rules.specs.Limits.{nodes}
use Rattle.rules.specs.Receiver.{Receiver, cell_at}
use Rattle.rules.specs.Histories.{heard_by}
use Rattle.rules.specs.Demand3.{Demand3, in_book, slot_in_book, store_in_book}
use Rattle.rules.specs.Beyond.{Settles, Stays, Confession}
use Rattle.rules.proofs.Demand3.{demand3}
use Rattle.rules.proofs.Beyond.{settles, stays, confession}
use Rattle.slots.specs.Words.{slot_of}
use Rattle.acceptance.specs.Runs.{Lent, ran, in_code, slot_in_code, store_in_code}
use Rattle.acceptance.proofs.Runs.{book_of, ran_tied, heard_tied, slot_tied}

module _ (s : Settings) (m : Lent) (n : ℕ) where
  hears_tied : in_book s (book_of m) ≡ in_code s m
  hears_tied =
      fun_ext (λ test. fun_ext (λ history. fun_ext (λ fs.
      sym (heard_tied s test fs (ran s m history) ∙ ap (λ (w : Receiver). heard_by test s w fs) (ran_tied s history m)))))

  slots_tied : slot_in_book s (book_of m) n ≡ slot_in_code s m n
  slots_tied = fun_ext (λ history. ap (λ (w : Receiver). (cell_at s.extent w n).slot) (sym (ran_tied s history m)) ∙ slot_tied s (ran s m history) n)

  stores_tied : store_in_book s (book_of m) ≡ store_in_code s m
  stores_tied = fun_ext (λ history. ap (λ (w : Receiver). w.store) (sym (ran_tied s history m)))

  module _ (many : length m.words ≡ nodes) (room : nodes * s.extent ≤ length m.store) where
    slots_many : length (book_of m).slots ≡ nodes
    slots_many = length-map m.words slot_of ∙ many

    -- DEMAND 3 OF THE CODE
    pub demand3_of_code : Demand3 s n (in_code s m) (slot_in_code s m n)
    demand3_of_code = subst₂ (Demand3 s n) hears_tied slots_tied (demand3 s (book_of m) n slots_many room)

    -- and what goes beyond it
    pub settles_of_code : Settles s n (slot_in_code s m n)
    settles_of_code = subst (Settles s n) slots_tied (settles s (book_of m) n slots_many room)

    pub stays_of_code : Stays s n (slot_in_code s m n) (store_in_code s m)
    stays_of_code = subst₂ (Stays s n) slots_tied stores_tied (stays s (book_of m) n slots_many room)

    pub confession_of_code : Confession s n (in_code s m) (slot_in_code s m n)
    confession_of_code = subst₂ (Confession s n) hears_tied slots_tied (confession s (book_of m) n slots_many room)
