-- Questions that are asked slot by slot, each told with its slot: the first slot that is refused gives the answer.
use mathlib.Core.Path.{◌≡◌, refl, ap, ◌∙◌}
use mathlib.Core.Bool.{Bool, true, false, cond}
use mathlib.Core.List.{List, [], ◌∷◌, flat_map}
use mathlib.Core.Logic.{◌⊎◌, inl, inr}
use Prim.Native.Nat.{ℕ, zero, suc, ◌/◌, ◌%◌, ◌<◌, suc-le-suc}
use native.Mathlib.Nat.{not-suc-le-zero, le_of_suc-le-suc, zero-lt-suc}
use native.Mathlib.Omega.{arith}
use lib.Dec.{T, eqb}
use lib.ListN.{length, get_or}
use borrow.Author.Tests.{eqb-true}
use Rattle.tables.proofs.Listed.{tabulated, length_tabulate}
use Rattle.header.specs.Questions.{Question, first_no, number, telling}
use Rattle.header.proofs.QuestionLaws.{behind, refusing, decided}
use Rattle.layout.specs.Slots.{slot_of}
use Rattle.record_check.specs.Check.{in_order, turn_of}

-- ---- slot by slot

module _ {A : Type 0} (asked : ℕ → List (Question ℕ)) (refuses : (slot : ℕ) → T (refusing (asked slot))) (about : ℕ → ℕ → A) (passed : A) where
  abbrev pub answer : List ℕ → A
  answer slots = first_no passed (flat_map (λ slot. telling (about slot) (asked slot)) slots)

  -- the first slot decides, or those behind it
  next : (slot : ℕ) (slots : List ℕ) → answer (slot ∷ slots) ≡ cond (eqb (number (asked slot)) 0) (answer slots) (about slot (number (asked slot)))
  unfolding flat_map
  next slot slots =
      behind passed (telling (about slot) (asked slot)) (flat_map (λ k. telling (about k) (asked k)) slots)
      ∙ decided (about slot) (answer slots) (asked slot) (refuses slot)

  pub next_passes : (slot : ℕ) (slots : List ℕ) → eqb (number (asked slot)) 0 ≡ true → answer (slot ∷ slots) ≡ answer slots
  next_passes slot slots e = next slot slots ∙ ap (λ (b : Bool). cond b (answer slots) (about slot (number (asked slot)))) e

  pub next_refuses : (slot : ℕ) (slots : List ℕ) → eqb (number (asked slot)) 0 ≡ false → answer (slot ∷ slots) ≡ about slot (number (asked slot))
  next_refuses slot slots e = next slot slots ∙ ap (λ (b : Bool). cond b (answer slots) (about slot (number (asked slot)))) e

  -- all pass, or one is refused and none before it
  pub record Passing (slots : List ℕ) : Type 0 where
    pub each : (i : ℕ) → i < length slots → number (asked (get_or slots i 0)) ≡ 0
    pub is : answer slots ≡ passed

  pub record Refusing (slots : List ℕ) : Type 0 where
    pub at : ℕ
    pub here : at < length slots
    pub before : (i : ℕ) → i < at → number (asked (get_or slots i 0)) ≡ 0
    pub no : eqb (number (asked (get_or slots at 0))) 0 ≡ false
    pub is : answer slots ≡ about (get_or slots at 0) (number (asked (get_or slots at 0)))

  pub first_of : (slots : List ℕ) → Passing slots ⊎ Refusing slots
  unfolding flat_map
  first_of [] = inl (record { each = λ i h. absurd (not-suc-le-zero h); is = refl })
  first_of (slot ∷ slots) = go (first_of slots) (eqb (number (asked slot)) 0) refl
    where
      go : Passing slots ⊎ Refusing slots → (b : Bool) → eqb (number (asked slot)) 0 ≡ b → Passing (slot ∷ slots) ⊎ Refusing (slot ∷ slots)
      go rest false e = inr (record {
        at = 0;
        here = zero-lt-suc (length slots);
        before = λ i h. absurd (not-suc-le-zero h);
        no = e;
        is = next_refuses slot slots e;
      })
      go (inl p) true e = inl (record { each = each; is = next_passes slot slots e ∙ p.is })
        where
          each : (i : ℕ) → i < length (slot ∷ slots) → number (asked (get_or (slot ∷ slots) i 0)) ≡ 0
          each zero h = eqb-true (number (asked slot)) 0 e
          each (suc i) h = p.each i (le_of_suc-le-suc h)
      go (inr r) true e = inr (record {
        at = suc r.at;
        here = suc-le-suc r.here;
        before = earlier;
        no = r.no;
        is = next_passes slot slots e ∙ r.is;
      })
        where
          earlier : (i : ℕ) → i < suc r.at → number (asked (get_or (slot ∷ slots) i 0)) ≡ 0
          earlier zero h = eqb-true (number (asked slot)) 0 e
          earlier (suc i) h = r.before i (le_of_suc-le-suc h)

-- ---- the slots in turn

pub all_turns : length in_order ≡ 64
unfolding in_order
all_turns = length_tabulate 64 (λ k. slot_of (k % 2) (k / 2))

pub at_turn : (k : ℕ) → k < 64 → get_or in_order k 0 ≡ slot_of (k % 2) (k / 2)
unfolding in_order
at_turn k h = tabulated 64 (λ k. slot_of (k % 2) (k / 2)) k 0 h

-- a slot stands where its turn is
pub turn_of_lem : (slot : ℕ) → slot < 64 → (turn_of slot < 64) × (get_or in_order (turn_of slot) 0 ≡ slot)
turn_of_lem slot h = let small : turn_of slot < 64 = omega arith in (small, at_turn (turn_of slot) small ∙ omega arith)
