-- Laws of the writer of bits: a number that it puts is held, or fills a byte; and the last byte takes what is held.
use mathlib.Core.Path.{◌≡◌, refl, sym, ap, ap₂, ◌∙◌, subst}
use mathlib.Core.Bool.{Bool, false}
use mathlib.Core.List.{List, [], ◌++◌, append-nil, append_assoc}
use Prim.Native.Nat.{ℕ, ◌+◌, ◌-◌, ◌*◌, ◌/◌, ◌%◌, ◌^◌, ◌≤◌, ◌<◌}
use native.Mathlib.Nat.{mod-lt, mul-one, add-zero, lt_of_lt_of_le}
use native.Mathlib.Omega.{arith}
use lib.Arith.{digits_lt}
use lib.Dec.{lit≤, lit<}
use lib.ListN.{length, take, set, replicate, length-append}
use lib.Pow.{pow_pos, pow-add, pow_mono, shl_lt, shr_lt}
use lib.Seq.{take_at, length-take-le}
use Rattle.bit_fields.specs.Fields.{joined, upper, lower}
use Rattle.bit_fields.proofs.FieldLaws.{joined_is, upper_is, lower_is}
use Rattle.bit_string.specs.Bits.{bits_of, packed, unpacked}
use Rattle.bit_string.proofs.BitLaws.{length_bits, split, modulo, beside}
use Rattle.bit_string.proofs.PackLaws.{stored as byte_stored, length_packed, length_unpacked, unpacked_packed, packed_nothing}
use Rattle.side_info_writer.specs.declared.bit_writer.BitWriter.TheInside.{Inside}
use Rattle.side_info_writer.specs.BitWriter.{stored, bits_written, Steady}

-- ---- fields that hold bits

module _ (w : Inside) (whole : List Bool) (packs : w.bytes ≡ packed 174 whole) (eights : length whole ≡ 8 * w.at) (room : 8 * w.at + w.count ≤ 1392) where
  stored_is : stored w ≡ whole
  stored_is =
      ap (λ (bytes : List ℕ). take (8 * w.at) (unpacked bytes)) packs
      ∙ ap (take (8 * w.at)) (unpacked_packed 174 whole (omega arith))
      ∙ take_at whole (replicate (8 * 174 - length whole) false) (8 * w.at) eights

  -- whole bytes are stored, and the rest are held
  pub bits_are : bits_written w ≡ whole ++ bits_of w.count w.held
  unfolding bits_written
  bits_are = ap (λ (bs : List Bool). bs ++ bits_of w.count w.held) stored_is

  pub steady_by : w.count < 8 → w.held < 2 ^ w.count → Steady w
  steady_by few small = record { few = few; small = small; room = room; zeros = packs ∙ ap (packed 174) (sym stored_is) }

abbrev nothing : List ℕ → Inside
nothing bytes = record { bytes = bytes; at = 0; held = 0; count = 0 }

module _ (bytes : List ℕ) (e : bytes ≡ replicate 174 0) where
  zeros : bytes ≡ packed 174 []
  zeros = e ∙ sym (packed_nothing 174)

  pub begun : Steady (nothing bytes)
  begun = steady_by (nothing bytes) [] zeros refl (lit≤ tt) (lit< tt) (lit< tt)

  pub nothing_written : bits_written (nothing bytes) ≡ []
  unfolding bits_of
  nothing_written = bits_are (nothing bytes) [] zeros refl (lit≤ tt)

module _ (w : Inside) (steady : Steady w) where
  stored_long : length (stored w) ≡ 8 * w.at
  stored_long =
      let bytes : length w.bytes ≡ 174 = ap length steady.zeros ∙ length_packed 174 (stored w) in
      length-take-le (8 * w.at) (unpacked w.bytes) (let l = length_unpacked w.bytes in let r = steady.room in omega arith)

  pub used : 8 * w.at + w.count ≡ length (bits_written w)
  unfolding bits_written
  used =
      let a = length-append (stored w) (bits_of w.count w.held) in
      let b = length_bits w.count w.held in
      let c = stored_long in
      omega arith

  -- what is held fits a byte, also at its head
  held_small : w.held < 256
  held_small = lt_of_lt_of_le steady.small (pow_mono {j = 8} (let f = steady.few in omega arith))

  -- and a number of at most eight bits beside it
  side_by_side : (v width : ℕ) → width ≤ 8 → v < 2 ^ width → joined w.held v width ≡ w.held * 2 ^ width + v
  side_by_side v width few small = joined_is w.held v width held_small few small

  -- ---- the last byte

  pub last_small : joined w.held 0 (8 - w.count) < 256
  last_small =
      let all : w.count + (8 - w.count) ≡ 8 = let f = steady.few in omega arith in
      rw (side_by_side 0 (8 - w.count) (omega arith) (pow_pos (8 - w.count)), add-zero)
      (subst (λ (k : ℕ). w.held * 2 ^ (8 - w.count) < 2 ^ k) all (shl_lt w.count (8 - w.count) steady.small))

  pub last_byte : 0 < w.count → set w.bytes w.at (joined w.held 0 (8 - w.count)) ≡ packed 174 (bits_written w)
  unfolding bits_written
  last_byte some =
      ap₂ (λ (bytes : List ℕ) (y : ℕ). set bytes w.at y) steady.zeros
      (side_by_side 0 (8 - w.count) (omega arith) (pow_pos (8 - w.count)) ∙ add-zero (w.held * 2 ^ (8 - w.count)))
      ∙ byte_stored 174 w.at w.count w.held (stored w) stored_long (let r = steady.room in omega arith) (let f = steady.few in omega arith) steady.small

  pub no_last_byte : w.count ≤ 0 → w.bytes ≡ packed 174 (bits_written w)
  unfolding bits_written bits_of
  no_last_byte none =
      let z : w.count ≡ 0 = omega arith in
      steady.zeros ∙ ap (packed 174) (sym (ap (λ (n : ℕ). stored w ++ bits_of n w.held) z ∙ append-nil (stored w)))

  -- ---- a number is put

  module _ (v width : ℕ) (few : width ≤ 8) (small : v < 2 ^ width) (fits : length (bits_written w) + width ≤ 1392) where
    abbrev t : ℕ
    t = joined w.held v width

    room : 8 * w.at + (w.count + width) ≤ 1392
    room = let u = used in omega arith

    total : t < 2 ^ (w.count + width)
    total = rw (side_by_side v width few small, pow-add 2 w.count width) (digits_lt steady.small small)

    -- the bits held and the number's are those of the two side by side
    run_on : bits_written w ++ bits_of width v ≡ stored w ++ bits_of (w.count + width) t
    unfolding bits_written
    run_on =
        append_assoc (stored w) (bits_of w.count w.held) (bits_of width v)
        ∙ ap (λ (bs : List Bool). stored w ++ bs)
        (sym (beside w.count width w.held v small) ∙ ap (bits_of (w.count + width)) (sym (side_by_side v width few small)))

    -- fewer than eight bits are held
    abbrev held_on : Inside
    held_on = record { bytes = w.bytes; at = w.at; held = t; count = w.count + width }

    pub kept : w.count + width < 8 → Steady held_on
    kept under = steady_by held_on (stored w) steady.zeros stored_long room under total

    pub kept_bits : bits_written held_on ≡ bits_written w ++ bits_of width v
    kept_bits = bits_are held_on (stored w) steady.zeros stored_long room ∙ sym run_on

    -- eight bits make a byte
    module _ (over : 8 ≤ w.count + width) where
      abbrev rest : ℕ
      rest = w.count + width - 8

      abbrev byte : ℕ
      byte = upper t rest

      abbrev filled_on : Inside
      filled_on = record { bytes = set w.bytes w.at byte; at = w.at + 1; held = lower t rest; count = rest }

      all : w.count + width ≡ 8 + rest
      all = omega arith

      rest_few : rest < 8
      rest_few = let f = steady.few in omega arith

      byte_is : byte ≡ t / 2 ^ rest
      byte_is = upper_is t rest (omega (arith, rest_few))

      low_is : lower t rest ≡ t % 2 ^ rest
      low_is = lower_is t rest (omega (arith, rest_few))

      pub byte_small : byte < 256
      byte_small = rw byte_is (shr_lt 8 rest (subst (λ (k : ℕ). t < 2 ^ k) all total))

      pub byte_here : w.at < 174
      byte_here = let r = room in omega arith

      abbrev whole : List Bool
      whole = stored w ++ bits_of 8 byte

      packs : set w.bytes w.at byte ≡ packed 174 whole
      packs =
          ap (λ (bytes : List ℕ). set bytes w.at byte) steady.zeros
          ∙ ap (set (packed 174 (stored w)) w.at) (sym (mul-one byte))
          ∙ byte_stored 174 w.at 8 byte (stored w) stored_long byte_here (lit≤ tt) byte_small

      eights : length whole ≡ 8 * (w.at + 1)
      eights = length-append (stored w) (bits_of 8 byte) ∙ (let l = length_bits 8 byte in let g = stored_long in omega arith)

      room_on : 8 * (w.at + 1) + rest ≤ 1392
      room_on = let r = room in omega arith

      apart : bits_of (w.count + width) t ≡ bits_of 8 byte ++ bits_of rest (lower t rest)
      apart =
          ap (λ (k : ℕ). bits_of k t) all ∙ split 8 rest t
          ∙ ap₂ ◌++◌ (ap (bits_of 8) (sym byte_is)) (sym (modulo rest t) ∙ ap (bits_of rest) (sym low_is))

      pub filled : Steady filled_on
      filled = steady_by filled_on whole packs eights room_on rest_few (rw low_is (mod-lt t (pow_pos rest)))

      pub filled_bits : bits_written filled_on ≡ bits_written w ++ bits_of width v
      filled_bits =
          bits_are filled_on whole packs eights room_on
          ∙ append_assoc (stored w) (bits_of 8 byte) (bits_of rest (lower t rest))
          ∙ sym (run_on ∙ ap (λ (bs : List Bool). stored w ++ bs) apart)
