-- The tokens of a text, by its first byte.
use Rattle.std.proofs.Common.{◌≡◌, ℕ, suc, ◌+◌, Bool, true, false, cond, ◌||◌, T, List, [], ◌∷◌, ◌++◌, map, length, take, drop, sym, refl, ap, ◌∙◌, subst, arith}
use Rattle.plan_text.specs.Bytes.{reach, before, onto, pieces}
use Rattle.plan_text.specs.Lines.{ends_line, is_hash, is_blank, is_end}
use Rattle.std.proofs.lemmas.List.{append_assoc}
use Rattle.plan_ratios.specs.Tokens.{filled, line_tokens, Token, on_line, numbered, tokens_from}

-- ---- one part more

pub filled_append : (a b : List (List ℕ)) → filled (a ++ b) ≡ filled a ++ filled b
filled_append [] b = refl
filled_append ([] ∷ a) b = filled_append a b
filled_append ((x ∷ t) ∷ a) b = ap (λ (ts : List (List ℕ)). (x ∷ t) ∷ ts) (filled_append a b)

pub numbered_append : (n : ℕ) (a b : List (List ℕ)) → numbered n (a ++ b) ≡ numbered n a ++ numbered (n + length a) b
numbered_append n [] b = let e : n + 0 ≡ n = omega arith in rw e refl
numbered_append n (l ∷ ls) b =
    let e : n + suc (length ls) ≡ suc n + length ls = omega arith in
    rw (e, numbered_append (suc n) ls b) (sym (append_assoc (map (on_line n) (line_tokens l)) (numbered (suc n) ls) (numbered (suc n + length ls) b)))

-- ---- a text, met from its front

neither : (a b : Bool) → a || b ≡ false → (a ≡ false) × (b ≡ false)
neither true b e = absurd (subst T e tt)
neither false b e = (refl, e)

-- ---- one byte at the front of a line

-- a byte of a token
pub record Plain (b : ℕ) : Type 0 where
  pub no_line : ends_line b ≡ false
  pub no_hash : is_hash b ≡ false
  pub no_blank : is_blank b ≡ false

plain_front : (b : ℕ) (w : List ℕ) → Plain b → pieces is_blank (before is_hash (b ∷ w)) ≡ onto b (pieces is_blank (before is_hash w))
plain_front b w h = rw (h.no_hash, h.no_blank)

blank_front : (b : ℕ) (w : List ℕ) → is_hash b ≡ false → is_blank b ≡ true → line_tokens (b ∷ w) ≡ line_tokens w
blank_front b w h g = rw (h, g)

hash_front : (b : ℕ) (w : List ℕ) → is_hash b ≡ true → line_tokens (b ∷ w) ≡ []
hash_front b w h = rw h

-- ---- the same at the front of a text

module _ (n : ℕ) (b : ℕ) (bs : List ℕ) where
  pub feed_first : ends_line b ≡ true → tokens_from n (b ∷ bs) ≡ tokens_from (suc n) bs
  unfolding tokens_from
  feed_first h = rw h

  pub blank_first : ends_line b ≡ false → is_hash b ≡ false → is_blank b ≡ true → tokens_from n (b ∷ bs) ≡ tokens_from n bs
  unfolding tokens_from
  blank_first l h g = rw l (go (pieces ends_line bs))
    where
      go : (P : List (List ℕ)) → numbered n (onto b P) ≡ numbered n P
      go [] = rw (blank_front b [] h g)
      go (w ∷ ws) = rw (blank_front b w h g)

-- the lines behind the first
abbrev others : ℕ → List (List ℕ) → List Token
others n [] = []
others n (w ∷ ws) = numbered (suc n) ws

others_onto : (n b : ℕ) (P : List (List ℕ)) → others n (onto b P) ≡ others n P
others_onto n b [] = refl
others_onto n b (w ∷ ws) = refl

others_are : (n : ℕ) (bs : List ℕ) → others n (pieces ends_line bs) ≡ tokens_from n (drop (reach ends_line bs) bs)
unfolding tokens_from
others_are n [] = refl
others_are n (b ∷ bs) = go (ends_line b) refl (others_are n bs)
  where
    go : (t : Bool) → ends_line b ≡ t → others n (pieces ends_line bs) ≡ tokens_from n (drop (reach ends_line bs) bs)
        → others n (cond t ([] ∷ pieces ends_line bs) (onto b (pieces ends_line bs))) ≡ tokens_from n (drop (cond t 0 (suc (reach ends_line bs))) (b ∷ bs))
    go true e h = rw e
    go false e h = others_onto n b (pieces ends_line bs) ∙ h

-- a comment goes to the end of its line
pub hash_first : (n b : ℕ) (bs : List ℕ) → ends_line b ≡ false → is_hash b ≡ true → tokens_from n (b ∷ bs) ≡ tokens_from n (drop (reach ends_line bs) bs)
unfolding tokens_from
hash_first n b bs l h = rw l (go (pieces ends_line bs) ∙ others_are n bs)
  where
    go : (P : List (List ℕ)) → numbered n (onto b P) ≡ others n P
    go [] = rw (hash_front b [] h)
    go (w ∷ ws) = rw (hash_front b w h)

-- ---- a token

-- a byte in front of the first token
abbrev grown : ℕ → List Token → List Token
grown b [] = []
grown b (t ∷ ts) = on_line t.line (b ∷ t.text) ∷ ts

module _ (n : ℕ) (b : ℕ) (h : Plain b) where
  alone : (w : List ℕ) (ws : List (List ℕ)) → pieces is_blank (before is_hash w) ≡ [] → numbered n ((b ∷ w) ∷ ws) ≡ on_line n (b ∷ []) ∷ numbered (suc n) ws
  alone w ws e = rw (plain_front b w h, e)

  -- in front of another
  two : (c : ℕ) (w : List ℕ) (ws : List (List ℕ)) → Plain c → numbered n ((b ∷ c ∷ w) ∷ ws) ≡ grown b (numbered n ((c ∷ w) ∷ ws))
  two c w ws g = rw (plain_front b (c ∷ w) h, plain_front c w g) (go (pieces is_blank (before is_hash w)))
    where
      go : (Q : List (List ℕ)) → map (on_line n) (filled (onto b (onto c Q))) ++ numbered (suc n) ws ≡ grown b (map (on_line n) (filled (onto c Q)) ++ numbered (suc n) ws)
      go [] = refl
      go (q ∷ Q) = refl

  -- in front of what is no token
  before_end : (c : ℕ) (bs : List ℕ) → is_end c ≡ true → tokens_from n (b ∷ c ∷ bs) ≡ on_line n (b ∷ []) ∷ tokens_from n (c ∷ bs)
  unfolding tokens_from
  before_end c bs e = rw h.no_line (feed (ends_line c) refl)
    where
      P : List (List ℕ)
      P = pieces ends_line bs

      blank : (t : Bool) → is_blank c ≡ t → is_hash c ≡ false → false || false || t ≡ true → (Q : List (List ℕ))
          → numbered n (onto b (onto c Q)) ≡ on_line n (b ∷ []) ∷ numbered n (onto c Q)
      blank true g f e [] = rw (plain_front b (c ∷ []) h, f, g)
      blank true g f e (w ∷ ws) = rw (plain_front b (c ∷ w) h, f, g)
      blank false g f e Q = absurd (subst T (sym e) tt)

      hash : (t : Bool) → is_hash c ≡ t → false || t || is_blank c ≡ true → (Q : List (List ℕ))
          → numbered n (onto b (onto c Q)) ≡ on_line n (b ∷ []) ∷ numbered n (onto c Q)
      hash true f e [] = rw (plain_front b (c ∷ []) h, f)
      hash true f e (w ∷ ws) = rw (plain_front b (c ∷ w) h, f)
      hash false f e Q = blank (is_blank c) refl f e Q

      feed : (t : Bool) → ends_line c ≡ t
          → numbered n (onto b (cond t ([] ∷ P) (onto c P))) ≡ on_line n (b ∷ []) ∷ numbered n (cond t ([] ∷ P) (onto c P))
      feed true g = alone [] P refl
      feed false g = hash (is_hash c) refl (subst (λ (t : Bool). t || is_hash c || is_blank c ≡ true) g e) P

plain_byte : (b : ℕ) → is_end b ≡ false → Plain b
plain_byte b e =
    let p = neither (ends_line b || is_hash b) (is_blank b) e in
    let q = neither (ends_line b) (is_hash b) p.0 in
    record { no_line = q.0; no_hash = q.1; no_blank = p.1 }

-- a token goes to the next byte that ends one
pub token_first : (n b : ℕ) (bs : List ℕ) → Plain b
    → tokens_from n (b ∷ bs) ≡ on_line n (b ∷ take (reach is_end bs) bs) ∷ tokens_from n (drop (reach is_end bs) bs)
unfolding tokens_from
token_first n b [] h = rw h.no_line (alone n b h [] [] refl)
token_first n b (c ∷ bs) h = go (is_end c) refl (λ g. token_first n c bs g)
  where
    r : ℕ
    r = reach is_end bs

    next : Plain c → tokens_from n (b ∷ c ∷ bs) ≡ grown b (tokens_from n (c ∷ bs))
    next g = rw (h.no_line, g.no_line) (on (pieces ends_line bs))
      where
        on : (P : List (List ℕ)) → numbered n (onto b (onto c P)) ≡ grown b (numbered n (onto c P))
        on [] = two n b h c [] [] g
        on (w ∷ ws) = two n b h c w ws g

    go : (t : Bool) → is_end c ≡ t → (Plain c → tokens_from n (c ∷ bs) ≡ on_line n (c ∷ take r bs) ∷ tokens_from n (drop r bs))
        → tokens_from n (b ∷ c ∷ bs)
        ≡ on_line n (b ∷ take (cond t 0 (suc r)) (c ∷ bs)) ∷ tokens_from n (drop (cond t 0 (suc r)) (c ∷ bs))
    go true e f = before_end n b h c bs e
    go false e f = let g = plain_byte c e in next g ∙ ap (grown b) (f g)
