-- The questions as they are asked one after the other: those before were answered yes, so that those to come decide.
use mathlib.Core.Path.{◌≡◌, sym, ap, ap₂, ◌∙◌}
use mathlib.Core.Bool.{true}
use mathlib.Core.List.{List, ◌∷◌, ◌++◌, append_assoc, map, flat_map}
use Prim.Native.Nat.{ℕ, ◌+◌, ◌≤◌, ◌<◌}
use native.Mathlib.Numerals.{add-one}
use lib.ListN.{length, get_or, drop}
use lib.Seq.{drop-cons}
use borrow.Author.Count.{below_more}
use Rattle.std.specs.Prelude.{Ok, Err}
use Rattle.header.specs.Questions.{Question, number}
use Rattle.header.proofs.QuestionLaws.{said_yes}
use Rattle.layout.specs.declared.Layout.{Layout}
use Rattle.layout.specs.declared.AllocationField.{AllocationField}
use Rattle.layout.specs.Layout.{own, fields_of, field_in}
use Rattle.side_info.specs.declared.SideInfo.{SideInfo}
use Rattle.side_info.specs.SideInfo.{field_asked, scalefactor_asked}
use Rattle.side_info.proofs.FlatLaws.{flat_next, flat_end}
use Rattle.side_info_writer.specs.declared.WriteError.{WriteError}
use Rattle.side_info_writer.specs.Written.{error_number}
use Rattle.side_info_writer.specs.OnTheWay.{found, Passed, Stopped}
use Rattle.side_info_writer.proofs.PlaceLaws.{place_passes, place_stops}

-- ---- question 8, slot by slot

module _ (slots : List ℕ) (r : SideInfo) where
  abbrev asked : ℕ → Question ℕ
  asked = scalefactor_asked r

  pub record TabledTo (k : ℕ) : Type 0 where
    pub decides : number (map asked slots) ≡ number (map asked (drop k slots))
    pub each : (j : ℕ) → j < k → (asked (get_or slots j 0)).yes ≡ true

  module _ (k slot : ℕ) (here : k < length slots) (e : slot ≡ get_or slots k 0) (so_far : TabledTo k) where
    next : number (map asked slots) ≡ number (asked slot ∷ map asked (drop (k + 1) slots))
    next =
        so_far.decides
        ∙ ap (λ (xs : List ℕ). number (map asked xs)) (drop-cons slots k 0 here)
        ∙ ap₂ (λ (s n : ℕ). number (asked s ∷ map asked (drop n slots))) (sym e) (sym (add-one k))

    pub one_tabled : (asked slot).yes ≡ true → TabledTo (k + 1)
    one_tabled t = record {
      decides = next ∙ said_yes 0 (asked slot) (map asked (drop (k + 1) slots)) t;
      each = below_more (λ j. (asked (get_or slots j 0)).yes ≡ true) k so_far.each (rw (← e) t);
    }

-- ---- questions 6 and 7, field by field

module _ (l : Layout) (r : SideInfo) where
  abbrev fields_asked : List AllocationField → List (Question ℕ)
  fields_asked xs = flat_map (field_asked l r) xs

  pub record PassedTo (f : ℕ) : Type 0 where
    pub decides : (rest : List (Question ℕ)) → number (fields_asked (fields_of l) ++ rest) ≡ number (fields_asked (drop f (fields_of l)) ++ rest)

  module _ (f : ℕ) (x : AllocationField) (here : f < length (fields_of l)) (e : x ≡ field_in (fields_of l) f) (so_far : PassedTo f) where
    next_field : (rest : List (Question ℕ))
        → number (fields_asked (fields_of l) ++ rest) ≡ number (field_asked l r x ++ (fields_asked (drop (f + 1) (fields_of l)) ++ rest))
    next_field rest =
        so_far.decides rest
        ∙ ap (λ (qs : List (Question ℕ)). number (qs ++ rest))
        (flat_next (field_asked l r) (fields_of l) f (own 0 0) here
        ∙ ap (λ (y : AllocationField). field_asked l r y ++ fields_asked (drop (f + 1) (fields_of l))) (sym e))
        ∙ ap number (append_assoc (field_asked l r x) (fields_asked (drop (f + 1) (fields_of l))) rest)

    pub one_passed : (p : ℕ) → Ok p ≡ found l.table x r → PassedTo (f + 1)
    one_passed p a = record { decides = λ rest. next_field rest ∙ place_passes l r x p a (fields_asked (drop (f + 1) (fields_of l)) ++ rest) }

    pub one_stopped : (error : WriteError) → Err error ≡ found l.table x r → Stopped (fields_asked (fields_of l)) (error_number error)
    one_stopped error a = record {
      decides = λ rest. next_field rest ∙ place_stops l r x error a (fields_asked (drop (f + 1) (fields_of l)) ++ rest);
    }

  pub all_passed : (f : ℕ) → length (fields_of l) ≤ f → PassedTo f → Passed (fields_asked (fields_of l))
  all_passed f h so_far = record {
    decides = λ rest. so_far.decides rest ∙ ap (λ (qs : List (Question ℕ)). number (qs ++ rest)) (flat_end (field_asked l r) (fields_of l) f h);
  }
