-- The scfsi that sends the fewest indices: it carries the three, and every other that does sends more. One test over the four values, whichever neighbours agree.
use mathlib.Core.Path.{◌≡◌, refl, sym, ap, ap₂, ◌∙◌, subst}
use mathlib.Core.Bool.{Bool, true, false, not, ◌&&◌, ◌||◌, true≢false}
use mathlib.Core.Logic.{◌⊎◌, inl, inr}
use Prim.Native.Nat.{◌≤◌, ◌<◌}
use native.Mathlib.Omega.{arith}
use lib.Dec.{eqb, ltb}
use borrow.Author.Tests.{eqb-true, ltb-true}
use Rattle.audio_data.specs.declared.Scfsi.{Scfsi}
use Rattle.audio_data.specs.declared.Scfsi.TheVariants.{ThreePerGranule, Share01Then2, ShareAll, Share0Then12}
use Rattle.audio_data.specs.Scfsi.{Three, Agrees, agreeing, parts_of, code_of, of_code}
use Rattle.audio_data.proofs.ScfsiLaws.{comes_back, back_agrees, agreeing_true, agrees_true, of_code_lem}
use Rattle.canonical_form.specs.Fewest.{Carries, fewest_by, fewest_scfsi, FewestIs}

-- ---- which can carry three indices

-- by which neighbours agree
abbrev can : Bool → Bool → Scfsi → Bool
can p q ThreePerGranule = true
can p q Share01Then2 = p
can p q ShareAll = p && q
can p q Share0Then12 = q

module _ (t : Three) where
  abbrev firsts : Bool
  firsts = eqb t.first t.second

  abbrev lasts : Bool
  lasts = eqb t.second t.third

  can_is : (c : Scfsi) → can firsts lasts c ≡ agreeing c t
  can_is ThreePerGranule = refl
  can_is Share01Then2 = refl
  can_is ShareAll = refl
  can_is Share0Then12 = refl

  can_carry : (c : Scfsi) → Carries c t → can firsts lasts c ≡ true
  can_carry c e = can_is c ∙ agrees_true c t (back_agrees c t e)

  can_agree : (c : Scfsi) → can firsts lasts c ≡ true → Agrees c t
  can_agree c e = agreeing_true c t (sym (can_is c) ∙ e)

-- ---- the test: one that can carry them is the chosen, or sends more

abbrev passes : Bool → Bool → Scfsi → Bool
passes p q c = not (can p q c) || (eqb (code_of c) (code_of (fewest_by p q)) || ltb (parts_of (fewest_by p q)) (parts_of c))

computed : (p q : Bool) (c : Scfsi) → passes p q c ≡ true
computed true true ThreePerGranule = refl
computed true true Share01Then2 = refl
computed true true ShareAll = refl
computed true true Share0Then12 = refl
computed true false ThreePerGranule = refl
computed true false Share01Then2 = refl
computed true false ShareAll = refl
computed true false Share0Then12 = refl
computed false true ThreePerGranule = refl
computed false true Share01Then2 = refl
computed false true ShareAll = refl
computed false true Share0Then12 = refl
computed false false ThreePerGranule = refl
computed false false Share01Then2 = refl
computed false false ShareAll = refl
computed false false Share0Then12 = refl

chosen_can : (p q : Bool) → can p q (fewest_by p q) ≡ true
chosen_can true true = refl
chosen_can true false = refl
chosen_can false true = refl
chosen_can false false = refl

chosen_or_more : (p q : Bool) (c : Scfsi) → can p q c ≡ true → (c ≡ fewest_by p q) ⊎ (parts_of (fewest_by p q) < parts_of c)
chosen_or_more p q c e = go (can p q c) e (eqb (code_of c) (code_of (fewest_by p q))) refl (computed p q c)
  where
    more : Bool
    more = ltb (parts_of (fewest_by p q)) (parts_of c)

    go : (v : Bool) → v ≡ true → (same : Bool) → eqb (code_of c) (code_of (fewest_by p q)) ≡ same → not v || (same || more) ≡ true
        → (c ≡ fewest_by p q) ⊎ (parts_of (fewest_by p q) < parts_of c)
    go false z same k t = absurd (true≢false (sym z))
    go true z true k t = inl (sym (of_code_lem c) ∙ ap of_code (eqb-true (code_of c) (code_of (fewest_by p q)) k) ∙ of_code_lem (fewest_by p q))
    go true z false k t = inr (ltb-true (parts_of (fewest_by p q)) (parts_of c) t)

-- ---- what is promised

module _ (t : Three) where
  -- the chosen scfsi shares what is equal
  pub fewest_agrees : Agrees (fewest_scfsi t) t
  fewest_agrees = can_agree t (fewest_scfsi t) (chosen_can (firsts t) (lasts t))

  pub fewest_least : (c : Scfsi) → Carries c t → parts_of (fewest_scfsi t) ≤ parts_of c
  fewest_least c e = go (chosen_or_more (firsts t) (lasts t) c (can_carry t c e))
    where
      go : (c ≡ fewest_scfsi t) ⊎ (parts_of (fewest_scfsi t) < parts_of c) → parts_of (fewest_scfsi t) ≤ parts_of c
      go (inl same) = let n : parts_of c ≡ parts_of (fewest_scfsi t) = ap parts_of same in omega arith
      go (inr more) = omega arith

  fewest_only : (c : Scfsi) → Carries c t → parts_of c ≤ parts_of (fewest_scfsi t) → c ≡ fewest_scfsi t
  fewest_only c e few = go (chosen_or_more (firsts t) (lasts t) c (can_carry t c e))
    where
      go : (c ≡ fewest_scfsi t) ⊎ (parts_of (fewest_scfsi t) < parts_of c) → c ≡ fewest_scfsi t
      go (inl same) = same
      go (inr more) = absurd (omega arith)

  -- the definition keeps all that is promised of it
  fewest_is : (r : Scfsi) → r ≡ fewest_scfsi t → FewestIs t r
  fewest_is r e = subst (FewestIs t) (sym e) (record {
    whole = refl;
    carries = comes_back (fewest_scfsi t) t fewest_agrees;
    least = fewest_least;
    only = fewest_only;
  })

  -- by which neighbours agree
  pub fewest_by_lem : (p q : Bool) → firsts t ≡ p → lasts t ≡ q → FewestIs t (fewest_by p q)
  fewest_by_lem p q e f = fewest_is (fewest_by p q) (sym (ap₂ fewest_by e f))
