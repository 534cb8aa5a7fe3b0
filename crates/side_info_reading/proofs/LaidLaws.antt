-- Values that are put at places of a list: what stands there then, and that nothing else has changed.
use mathlib.Core.Path.{◌≡◌, refl, sym, ap, ◌∙◌, subst}
use mathlib.Core.Bool.{Bool, true, false, true≢false}
use mathlib.Core.List.{List, [], ◌∷◌, map}
use mathlib.Core.Logic.{◌⊎◌, inl, inr}
use Prim.Native.Nat.{ℕ, ◌<◌}
use lib.Dec.{eqb}
use lib.ListN.{length, get_or, set, length-set}
use lib.Seq.{get_or-set_same, get_or-set_other}
use borrow.Author.Tests.{eqb-true, eqb-false}
use Rattle.tables.specs.Search.{one_of}
use Rattle.side_info_reading.specs.Taken.{laid}
use Rattle.side_info.proofs.ListLaws.{Each, Distinct, not_first, has_none}

module _ {C : Type 0} where
  abbrev pub places_of : List (ℕ × C) → List ℕ
  places_of ps = map (λ p. p.0) ps

  pub length_laid : (ps : List (ℕ × C)) (cells : List C) → length (laid ps cells) ≡ length cells
  length_laid [] cells = refl
  length_laid (p ∷ ps) cells = length_laid ps (set cells p.0 p.1) ∙ length-set cells p.0 p.1

  module _ (d : C) where
    -- a list has the values at their places
    abbrev pub Held : List C → List (ℕ × C) → Type 0
    Held cells ps = Each (λ p. (p.0 < length cells) × (get_or cells p.0 d ≡ p.1)) ps

    -- elsewhere it stays as it was
    pub laid_elsewhere : (ps : List (ℕ × C)) (cells : List C) (k : ℕ) → one_of (places_of ps) k ≡ false → get_or (laid ps cells) k d ≡ get_or cells k d
    laid_elsewhere [] cells k e = refl
    laid_elsewhere (p ∷ ps) cells k e =
        let n = not_first k p.0 (places_of ps) e in
        laid_elsewhere ps (set cells p.0 p.1) k n.1 ∙ get_or-set_other cells p.0 k p.1 d (eqb-false k p.0 n.0)

    -- a list that has the values agrees, at their places and wherever it agreed
    pub laid_agrees : (ps : List (ℕ × C)) (cells target : List C) (k : ℕ) → length cells ≡ length target → Held target ps
        → (one_of (places_of ps) k ≡ true) ⊎ (get_or cells k d ≡ get_or target k d) → get_or (laid ps cells) k d ≡ get_or target k d
    unfolding one_of
    laid_agrees [] cells target k l h (inl e) = absurd (true≢false (sym e ∙ has_none k))
    laid_agrees [] cells target k l h (inr e) = e
    laid_agrees (p ∷ ps) cells target k l h c =
        laid_agrees ps (set cells p.0 p.1) target k (length-set cells p.0 p.1 ∙ l) h.1 (go (eqb k p.0) refl c)
      where
        Agree : Type 0
        Agree = (one_of (places_of ps) k ≡ true) ⊎ (get_or (set cells p.0 p.1) k d ≡ get_or target k d)

        go : (b : Bool) → eqb k p.0 ≡ b → (one_of (p.0 ∷ places_of ps) k ≡ true) ⊎ (get_or cells k d ≡ get_or target k d) → Agree
        go true q c =
            let e = eqb-true k p.0 q in
            inr (ap (λ (j : ℕ). get_or (set cells p.0 p.1) j d) e ∙ get_or-set_same cells p.0 p.1 d (rw l h.0.0) ∙ sym h.0.1 ∙ ap (λ (j : ℕ). get_or target j d) (sym e))
        go false q (inl e) = inl (rw q at e)
        go false q (inr e) = inr (get_or-set_other cells p.0 k p.1 d (eqb-false k p.0 q) ∙ e)

    -- where the places are different and there, the values stand at them
    pub laid_held : (ps : List (ℕ × C)) (cells : List C) → Distinct (places_of ps) → Each (λ k. k < length cells) (places_of ps) → Held (laid ps cells) ps
    laid_held [] cells d b = tt
    laid_held (p ∷ ps) cells n b =
        let put = set cells p.0 p.1 in
        let s = length-set cells p.0 p.1 in (
          (
            rw (length_laid ps put ∙ s) b.0,
            laid_elsewhere ps put p.0 n.0 ∙ get_or-set_same cells p.0 p.1 d b.0,
          ),
          laid_held ps put n.1 (subst (λ (m : ℕ). Each (λ k. k < m) (places_of ps)) (sym s) b.1),
        )

    -- what agrees at the places has the values too
    pub held_same : (ps : List (ℕ × C)) (cells target : List C) → length target ≡ length cells → Each (λ k. get_or target k d ≡ get_or cells k d) (places_of ps)
        → Held cells ps → Held target ps
    held_same [] cells target l e h = tt
    held_same (p ∷ ps) cells target l e h = ((rw l h.0.0, e.0 ∙ h.0.1), held_same ps cells target l e.1 h.1)
