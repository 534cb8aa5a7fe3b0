-- The laws of a layout's fields that callers go by: how many there are, that each is carried, and that each slot is served by one. Then what
-- the functions answer.
use Rattle.std.proofs.lemmas.Option.{none-some}
use Rattle.std.specs.Prelude.{None, Some}
use mathlib.Core.Path.{◌≡◌, sym, ap, ◌∙◌, subst}
use mathlib.Core.Bool.{Bool, true, false}
use mathlib.Core.Logic.{inr}
use Prim.Native.Nat.{ℕ, ◌≤◌, ◌<◌}
use lib.Dec.{T, eqb, lit<}
use lib.ListN.{length, get_or-eq_default}
use Rattle.tables.specs.Search.{one_of}
use Rattle.bitalloc.specs.declared.BitAllocTable.{BitAllocTable}
use Rattle.bitalloc.specs.declared.BitAllocTable.TheVariants.{B2a, B2b, B2c, B2d, B1Lsf}
use Rattle.bitalloc.specs.Tables.{sblimit_of}
use Rattle.bitalloc.proofs.RowLaws.{sblimit_small}
use Rattle.layout.specs.declared.Layout.{Layout}
use Rattle.layout.specs.declared.AllocationField.{AllocationField}
use Rattle.layout.specs.Layout.{own, served, limit_of, fields_of, field_in, served_by, FieldsAre, FieldIs, ServingIs}
use Rattle.layout.proofs.NumberLaws.{numbered, count, serving, fields_numbered, numbered_below, numbered_channel, count_small, Carried, Outside, by_number, by_none, served_back, first_served}

module _ (l : Layout) where
  abbrev one : Bool
  one = eqb l.channels 1

  many : length (fields_of l) ≡ count one l.bound (limit_of l)
  unfolding fields_of
  many = (fields_numbered l (limit_of l)).many

  which : (f : ℕ) → f < length (fields_of l) → field_in (fields_of l) f ≡ numbered one l.bound f
  unfolding fields_of
  which f h = (fields_numbered l (limit_of l)).which f (rw many at h)

  -- ---- for callers

  -- there are 60 at most
  pub few : length (fields_of l) ≤ 60
  few = rw many (count_small one l.bound (limit_of l) (sblimit_small l.table))

  module _ (f : ℕ) (h : f < length (fields_of l)) where
    -- a field's subband is carried
    pub carried : (field_in (fields_of l) f).subband < limit_of l
    carried = rw (which f h) (numbered_below one l.bound (limit_of l) f (rw many at h))

    -- its first channel is one of its channels
    pub serves_first : T (one_of (served (field_in (fields_of l) f)) (field_in (fields_of l) f).channel)
    serves_first = rw (which f h) (first_served one l.bound f)

    -- the slots that it serves: there are two channels at most, and no other field serves them
    module _ (ch : ℕ) (t : T (one_of (served (field_in (fields_of l) f)) ch)) where
      back : Carried one (limit_of l) ch (field_in (fields_of l) f).subband × (serving one l.bound ch (field_in (fields_of l) f).subband ≡ f) × (ch < 2)
      back =
          subst (λ (x : AllocationField). Carried one (limit_of l) ch x.subband × (serving one l.bound ch x.subband ≡ f) × (ch < 2)) (sym (which f h))
          (served_back one l.bound (limit_of l) f ch (rw many at h)
          (subst (λ (x : AllocationField). T (one_of (served x) ch)) (which f h) t))

      pub channel_small : ch < 2
      channel_small = back.2

      pub served_once : served_by l ch (field_in (fields_of l) f).subband ≡ Some f
      unfolding fields_of
      served_once =
          by_number one l (limit_of l) ch (field_in (fields_of l) f).subband (fields_numbered l (limit_of l)) back.0 ∙ ap Some back.1

  -- ---- what the functions answer

  pub fields_are : (n : ℕ) → n ≡ count one l.bound (limit_of l) → FieldsAre l n
  fields_are n e = let w : n ≡ length (fields_of l) = e ∙ sym many in record { whole = w; few = rw w few }

  pub field_is : (f : ℕ) (x : AllocationField) → f < length (fields_of l) → x ≡ numbered one l.bound f → FieldIs l f x
  field_is f x h e = record {
    whole = e ∙ sym (which f h);
    carried = rw e (numbered_below one l.bound (limit_of l) f (rw many at h));
    channel = rw e (numbered_channel one l.bound f);
  }

  -- past the last field
  pub no_field : (f : ℕ) (x : AllocationField) → length (fields_of l) ≤ f → x ≡ own 0 0 → FieldIs l f x
  no_field f x h e = record {
    whole = e ∙ sym (get_or-eq_default (fields_of l) (own 0 0) {n = f} h);
    carried = rw e (limit_some l.table);
    channel = rw e (lit< tt);
  }
    where
      limit_some : (t : BitAllocTable) → 0 < sblimit_of t
      limit_some B2a = lit< tt
      limit_some B2b = lit< tt
      limit_some B2c = lit< tt
      limit_some B2d = lit< tt
      limit_some B1Lsf = lit< tt

  pub serving_is : (ch sb f : ℕ) → Carried one (limit_of l) ch sb → f ≡ serving one l.bound ch sb → f < 60 → ServingIs l ch sb (Some f)
  unfolding fields_of
  serving_is ch sb f c e h = record {
    whole = ap Some e ∙ sym (by_number one l (limit_of l) ch sb (fields_numbered l (limit_of l)) c);
    below = λ g p. subst (λ (n : ℕ). n < 60) (held p) h;
  }
    where
      held : {m n : ℕ} → Some m ≡ Some n → m ≡ n
      held e = cc

  pub none_serves : (ch sb : ℕ) → Outside one (limit_of l) ch sb → ServingIs l ch sb None
  unfolding fields_of
  none_serves ch sb o = record {
    whole = sym (by_none one l (limit_of l) ch sb (fields_numbered l (limit_of l)) o);
    below = λ g p. absurd (none-some g p);
  }

  -- above the limit, with one channel and with two
  pub past_limit : (ch sb : ℕ) → limit_of l ≤ sb → ServingIs l ch sb None
  unfolding Outside
  past_limit ch sb h = none_serves ch sb (go one)
    where
      go : (one : Bool) → Outside one (limit_of l) ch sb
      go true = inr h
      go false = inr h
