-- The words that stand for themselves, found in the code's table.
use Rattle.std.proofs.Common.{◌≡◌, ℕ, Bool, true, false, cond, List, [], ◌∷◌, map, Bor, ap, refl}
use Rattle.std.specs.Prelude.{Option, Some}
use Rattle.std.specs.Option.{option_or}
use Rattle.plan_text.specs.Bytes.{same}
use Rattle.plan_text.specs.Quoted.{text}
use Rattle.plan_words.specs.declared.Setting.{Setting}
use Rattle.plan_words.specs.Word.{Named, lookup}
use Rattle.plan_text.specs.Table.{looked_up}

-- what an entry says, in the code and in the definition
abbrev pub written : Bor (List ℕ) × Setting → List ℕ × Setting
written p = (p.0.now, p.1)

abbrev pub meant : Named → List ℕ × Setting
meant n = (text n.word, n.sets)

module _ (w : List ℕ) (other : Option Setting) where
  pub found : (ts : List (Bor (List ℕ) × Setting)) (ns : List Named) → map written ts ≡ map meant ns
      → option_or (looked_up ts w) other ≡ lookup ns other w
  unfolding lookup looked_up
  found [] [] e = refl
  found [] (n ∷ ns) e = cc
  found (t ∷ ts) [] e = cc
  found (t ∷ ts) (n ∷ ns) e =
      let rest : map written ts ≡ map meant ns = cc in
      let both : written t ≡ meant n = cc in
      let word : t.0.now ≡ text n.word = ap (λ (p : List ℕ × Setting). p.0) both in
      let sets : t.1 ≡ n.sets = ap (λ (p : List ℕ × Setting). p.1) both in
      rw (← word, ← sets) (go (same w t.0.now) (found ts ns rest))
    where
      go : (b : Bool) → option_or (looked_up ts w) other ≡ lookup ns other w
          → option_or (cond b (Some t.1) (looked_up ts w)) other ≡ cond b (Some t.1) (lookup ns other w)
      go true h = refl
      go false h = h
