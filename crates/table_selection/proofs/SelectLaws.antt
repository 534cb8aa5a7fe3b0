-- What the code's matches on sample rate and bit rate find is what the headings have.
use Rattle.std.specs.Prelude.{Option, None, Some, option_map}
use Rattle.std.specs.Bool.{then_some}
use mathlib.Core.Path.{◌≡◌, refl, sym, ap, subst}
use mathlib.Core.Bool.{Bool, true, false, cond, not, ◌&&◌, ◌||◌, and-false}
use mathlib.Core.List.{List, [], ◌∷◌, ◌++◌}
use mathlib.Core.Logic.{⊎_elim}
use Prim.Native.Nat.{ℕ}
use lib.Dec.{T, eqb}
use types.Run.{OneOf}
use borrow.Author.Tests.{ne_eqb}
use Rattle.tables.specs.Search.{one_of, entry_at}
use Rattle.tables.proofs.Rule.{first, second, all}
use Rattle.tables.proofs.Search.{none_passes}
use Rattle.tables.proofs.Keys.{Each, at_key, no_key, no_key_either}
use Rattle.header.specs.declared.FrameHeader.{FrameHeader}
use Rattle.header.specs.Header.{free_format}
use Rattle.bitalloc.specs.declared.BitAllocTable.{BitAllocTable}
use Rattle.bitalloc.specs.declared.BitAllocTable.TheVariants.{B1Lsf}
use Rattle.table_selection.specs.Select.{Heading, Rate, free, kbps, headings, has, kbps_per_channel, table_at, table_of}

-- the bit rates that the code tells apart
abbrev pub low : List ℕ
low = 32 ∷ 48 ∷ []

abbrev pub middle : List ℕ
middle = 56 ∷ 64 ∷ 80 ∷ []

abbrev pub high : List ℕ
high = 96 ∷ 112 ∷ 128 ∷ 160 ∷ 192 ∷ []

-- an arm's table is the headings' at each of its keys
pub arm : (t : BitAllocTable) (frequency f : ℕ) (ks : List ℕ) (n : ℕ) → f ≡ frequency
    → Each (λ k. Some t ≡ table_at frequency (kbps (Some k))) ks → OneOf ks n → Some t ≡ table_at f (kbps (Some n))
arm t frequency f ks n e each h = rw e (at_key (λ k. Some t ≡ table_at frequency (kbps (Some k))) ks n each h)

-- no heading passes: no table
no_table : (frequency : ℕ) (rate : Rate) (p : Heading → Bool) → T (all p headings)
    → ((g : Heading) → T (p g) → (eqb frequency g.frequency && has g rate) ≡ false) → table_at frequency rate ≡ None
unfolding table_at
no_table frequency rate p t b =
    ap (λ o. option_map (λ g. g.table) (entry_at headings o)) (none_passes (λ g. eqb frequency g.frequency && has g rate) p headings t b)

-- every heading's sampling frequency is one of three
three : List ℕ
three = 48_000 ∷ 44_100 ∷ 32_000 ∷ []

in_three : Heading → Bool
in_three g = one_of three g.frequency

in_three_computed : T (all in_three headings)
unfolding in_three three one_of headings
in_three_computed = tt

pub no_frequency : (frequency : ℕ) (rate : Rate) → one_of (48_000 ∷ 44_100 ∷ 32_000 ∷ []) frequency ≡ false → table_at frequency rate ≡ None
unfolding in_three three
no_frequency frequency rate h =
    no_table frequency rate in_three in_three_computed
    (λ g t. rw (ne_eqb frequency g.frequency (λ e. subst T h (subst (λ (f : ℕ). T (one_of three f)) (sym e) t))) refl)

-- what is not among the numbers of a list is not among fewer
fewer : (ks xs : List ℕ) (n : ℕ) → one_of ks n ≡ false → T (all (one_of ks) xs) → one_of xs n ≡ false
unfolding one_of
fewer ks [] n h t = refl
fewer ks (x ∷ xs) n h t =
    rw (ne_eqb n x (λ e. subst T h (subst (λ (m : ℕ). T (one_of ks m)) (sym e) (first (one_of ks x) (all (one_of ks) xs) t))))
    (fewer ks xs n h (second (one_of ks x) (all (one_of ks) xs) t))

-- the rates that a heading has at the frequency are among ks
unfoldable pub covers : ℕ → List ℕ → Heading → Bool
covers frequency ks g = not (eqb frequency g.frequency) || all (one_of ks) g.kbps

pub no_rate : (frequency : ℕ) (ks : List ℕ) (n : ℕ) → T (all (covers frequency ks) headings) → one_of ks n ≡ false
    → table_at frequency (kbps (Some n)) ≡ None
unfolding covers
no_rate frequency ks n t h = no_table frequency (kbps (Some n)) (covers frequency ks) t (λ g. go g (eqb frequency g.frequency))
  where
    go : (g : Heading) (b : Bool) → T (not b || all (one_of ks) g.kbps) → (b && one_of g.kbps n) ≡ false
    go g false c = refl
    go g true c = fewer ks g.kbps n h c

-- off all of an arm's keys, and off those of three arms
pub off_keys : (frequency f n : ℕ) → f ≡ frequency → T (all (covers frequency (low ++ (middle ++ high))) headings)
    → one_of low n ≡ false → one_of (middle ++ high) n ≡ false → None ≡ table_at f (kbps (Some n))
off_keys frequency f n e t l h = rw e (sym (no_rate frequency (low ++ (middle ++ high)) n t (no_key_either low (middle ++ high) n l h)))

pub off_three : (f : ℕ) (rate : Rate) → (f ≡ 48_000 → ⊥) → (f ≡ 44_100 → ⊥) → (f ≡ 32_000 → ⊥) → None ≡ table_at f rate
off_three f rate a b c = sym (no_frequency f rate go)
  where
    go : one_of (48_000 ∷ 44_100 ∷ 32_000 ∷ []) f ≡ false
    go = no_key (48_000 ∷ 44_100 ∷ 32_000 ∷ []) f (λ h. ⊎_elim a (⊎_elim b c) h)

-- ---- the three ways to a table

pub of_lsf : (h : FrameHeader) → h.lsf ≡ true → Some B1Lsf ≡ table_of h
unfolding table_of
of_lsf h l = rw l

pub of_free : (h : FrameHeader) → h.lsf ≡ false → free_format h ≡ true → table_of h ≡ table_at h.sample_rate free
unfolding table_of
of_free h l f = rw (l, f)

pub of_rate : (h : FrameHeader) → h.lsf ≡ false → free_format h ≡ false → (n : Option ℕ) → kbps_per_channel h ≡ n
    → table_of h ≡ table_at h.sample_rate (kbps n)
unfolding table_of
of_rate h l f n e = rw (l, f, e)

-- std's `then_some` is the definitions' case
pub only_where : (b : Bool) (n : ℕ) → then_some b n ≡ cond b (Some n) None
only_where true n = refl
only_where false n = refl

-- a rate that is no whole number of kbit/s is in no heading
pub no_kbps : (frequency : ℕ) → table_at frequency (kbps None) ≡ None
no_kbps frequency = no_table frequency (kbps None) (λ g. true) any (λ g t. and-false (eqb frequency g.frequency))
  where
    any : T (all (λ g. true) headings)
    any = unfold headings in tt
