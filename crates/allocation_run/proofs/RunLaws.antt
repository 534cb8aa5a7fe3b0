-- The tables that the code lends to the rounds are the rules of the entries, so the rounds end where the definition says.
use mathlib.Core.Path.{◌≡◌, sym, ap, ◌∙◌, subst}
use mathlib.Core.List.{List}
use Prim.Native.Nat.{ℕ, ◌-◌, min, ◌≤◌, ◌<◌}
use native.Mathlib.Omega.{arith}
use lib.Ieee.{Float}
use lib.ListN.{length, get_or}
use Rattle.tables.proofs.Listed.{tabulate_same}
use Rattle.layout.specs.declared.Layout.{Layout}
use Rattle.layout.specs.Layout.{fields_of, field_in}
use Rattle.layout.proofs.FieldLaws.{few, carried}
use Rattle.allocation_rounds.specs.declared.Run.{Run}
use Rattle.allocation_rounds.specs.declared.Tables.{Tables}
use Rattle.allocation_rounds.specs.Rounds.{started, ended}
use Rattle.allocation_rounds.specs.Lent.{rules_in}
use Rattle.allocation_rounds.specs.Answers.{Onward}
use Rattle.allocation_rounds.proofs.Agree.{Agree, same_end}
use Rattle.allocation_run.specs.Entries.{Entry, entry_in, entry_of, entries_of, rules_of}
use Rattle.allocation_run.specs.Steps.{run_of}
use Rattle.allocation_run.specs.Laid.{TopsTo, Filled}
use Rattle.allocation_run.proofs.LaidLaws.{entries_count, entry_at, room}
use Rattle.allocation_run.proofs.RuleLaws.{Sound, sound_row}

module _ (l : Layout) (smr : List (List Float)) (costs : List ℕ) where
  abbrev es : List Entry
  es = entries_of l smr costs

  -- every entry's row is a row of the table
  pub sound : (f : ℕ) → f < length es → Sound (entry_in es f).row
  sound f h =
      let k : f < length (fields_of l) = rw (entries_count l smr costs) at h in
      subst (λ (e : Entry). Sound e.row) (sym (entry_at l smr costs f k)) (sound_row l.table (field_in (fields_of l) f).subband (carried l f k))

  module _ (n : ℕ) (counted : n ≡ length (fields_of l)) (t : Tables) (filled : Filled l smr costs n t) where
    many : t.fields ≡ length es
    many = filled.fields ∙ sym (entries_count l smr costs)

    all : t.fields ≡ n
    all = filled.fields ∙ sym counted

    within : (f : ℕ) → f < min t.fields 64 → f < length es
    within f h = let b : f < t.fields = omega arith in subst (λ (n : ℕ). f < n) many b

    tops_agree : (f : ℕ) → f < min t.fields 64 → min (get_or t.tops f 0) 15 ≡ length (entry_in es f).row - 1
    unfolding TopsTo
    tops_agree f h =
        let k : f < length (fields_of l) = rw (entries_count l smr costs) at (within f h) in
        let e = filled.tops f (let a = all in omega arith) ∙ ap (λ (x : Entry). length x.row - 1) (sym (entry_at l smr costs f k)) in
        let s = room l smr costs f in
        omega arith

    -- up to its top place a field has a place of its row
    in_row : (f p : ℕ) → f < min t.fields 64 → p ≤ min (get_or t.tops f 0) 15 → p < length (entry_in es f).row
    in_row f p h b = let s = (sound f (within f h)).some in let e = tops_agree f h in omega arith

    agrees : Agree (rules_in t) (rules_of es)
    unfolding rules_of
    agrees = record {
      fields = (let n = few l in let e : min t.fields 64 ≡ t.fields = omega arith in e) ∙ many;
      top = tops_agree;
      mnr = λ f p h b. let s = room l smr costs f in
          let i = in_row f p h (let k : p < min (get_or t.tops f 0) 15 = b in omega arith) in filled.laid.mnr f p i (let a = all in omega arith);
      charge = λ f p h b. let s = room l smr costs f in let i = in_row f p h b in filled.laid.charge f p i (let a = all in omega arith);
    }

    -- what `run_of` answers
    pub run_is : (offered : ℕ) (s r : Run) → s ≡ started offered → Onward s (ended (rules_in t) s) r → r ≡ run_of l smr costs offered
    unfolding run_of
    run_is offered s r started-at o =
        o.whole ∙ ap (ended (rules_in t)) started-at ∙ same_end (rules_in t) (rules_of es) agrees (started offered)

-- costs that agree at every field make the same entries
same_entries : (l : Layout) (smr : List (List Float)) (c d : List ℕ) → ((f : ℕ) → f < length (fields_of l) → get_or c f 0 ≡ get_or d f 0)
    → entries_of l smr c ≡ entries_of l smr d
unfolding entries_of
same_entries l smr c d e =
    tabulate_same (length (fields_of l)) _ _ (λ f h. ap (entry_of l.table smr (field_in (fields_of l) f)) (e f h))

-- so the rounds end at the same
pub same_run : (l : Layout) (smr : List (List Float)) (c d : List ℕ) (offered : ℕ) → ((f : ℕ) → f < length (fields_of l) → get_or c f 0 ≡ get_or d f 0)
    → run_of l smr c offered ≡ run_of l smr d offered
unfolding run_of
same_run l smr c d offered e = ap (λ (es : List Entry). ended (rules_of es) (started offered)) (same_entries l smr c d e)
