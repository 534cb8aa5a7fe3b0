-- The whole answer keeps its promises.
use mathlib.Core.Path.{◌≡◌, refl, sym, ap, ap₂, ◌∙◌, subst}
use mathlib.Core.Bool.{Bool, true, false, cond, true≢false}
use mathlib.Core.List.{List, [], ◌∷◌, ◌++◌}
use Prim.Native.Nat.{ℕ, zero, suc, ◌-◌, ◌*◌, ◌≤◌, zero-le}
use native.Mathlib.Omega.{arith}
use lib.Dec.{eqb, leb, lit≤}
use lib.ListN.{length, get_or, take, drop, replicate, length-append, take-append-drop}
use lib.Seq.{take_at}
use borrow.Author.Tests.{eqb-true, eq-eqb}
use Rattle.header.specs.declared.FrameHeader.{FrameHeader}
use Rattle.header.specs.Questions.{number}
use Rattle.header.proofs.QuestionLaws.{behind, all_yes, both_zero}
use Rattle.encoder_bit_budget.specs.Budget.{header_asked}
use Rattle.encoder_bit_budget.proofs.BudgetLaws.{refusing_header}
use Rattle.bitalloc.specs.Tables.{nbal_of, row_of}
use Rattle.layout.specs.declared.Layout.{Layout}
use Rattle.layout.specs.Layout.{fields_of}
use Rattle.audio_data.specs.Scfsi.{of_code, parts_of, restored}
use Rattle.bit_string.specs.Bits.{front, packed, unpacked}
use Rattle.bit_string.proofs.PackLaws.{unpacked_packed}
use Rattle.side_info.specs.declared.SideInfo.{SideInfo}
use Rattle.side_info.specs.SideInfo.{side_info, header_layout, active_slots, side_info_bits, record_asked, idle_scfsi}
use Rattle.side_info.proofs.CountLaws.{most}
use Rattle.side_info_writer.specs.Written.{WrittenAnswer, written, where_zero, writer_asked, written_of}
use Rattle.side_info_reading.specs.Taken.{Taken, got, refused, and_then, number_taken, laid, each_taken}
use Rattle.side_info_reading.specs.Reading.{field_taken, scfsi_taken, index_taken, indices_taken, three_taken, in_slots, in_slot, in_granules, nothing, allocation_taken, scfsis_taken, scalefactors_taken, with_scfsi, with_steps, side_info_taken}
use Rattle.side_info_reading.specs.Read.{ReadAnswer, read, read_by, read_of, Restorable, ReadIs}
use Rattle.side_info.proofs.AskedLaws.{record_yes, record_passes}
use Rattle.side_info_reading.proofs.BackLaws.{comes_back}
use Rattle.side_info_reading.proofs.ForthLaws.{WasWritten, read_was_written}

-- ---- nothing is refused by the number 0

abbrev Refusing : {A : Type 0} → Taken A → Type 0
Refusing (got x rest) = Unit {0}
Refusing (refused n) = eqb n 0 ≡ false

module _ {A B : Type 0} where
  then_refusing : (t : Taken A) (next : A → List Bool → Taken B) → Refusing t → ((x : A) (rest : List Bool) → Refusing (next x rest)) → Refusing (and_then t next)
  unfolding and_then
  then_refusing (got x rest) next r f = f x rest
  then_refusing (refused n) next r f = r

number_refusing : (w : ℕ) (bits : List Bool) → Refusing (number_taken w bits)
unfolding number_taken
number_refusing w bits = go (leb w (length bits))
  where
    go : (b : Bool) → Refusing (cond b (got (front w bits) (drop w bits)) (refused 9))
    go true = tt
    go false = refl

each_refusing : {X A C : Type 0} (take : X → List Bool → Taken A) (at : X → A → List (ℕ × C)) → ((x : X) (bits : List Bool) → Refusing (take x bits))
    → (xs : List X) (cells : List C) (bits : List Bool) → Refusing (each_taken take at xs cells bits)
unfolding each_taken
each_refusing take at f [] cells bits = tt
each_refusing take at f (x ∷ xs) cells bits =
    then_refusing (take x bits) (λ v. each_taken take at xs (laid (at x v) cells)) (f x bits) (λ v rest. each_refusing take at f xs (laid (at x v) cells) rest)

index_refusing : (bits : List Bool) → Refusing (index_taken bits)
index_refusing bits = then_refusing (number_taken 6 bits) (λ index rest. cond (eqb index 63) (refused 10) (got index rest)) (number_refusing 6 bits) (λ i rest. go i rest (eqb i 63))
  where
    go : (i : ℕ) (rest : List Bool) (b : Bool) → Refusing (cond b (refused 10) (got i rest))
    go i rest true = refl
    go i rest false = tt

indices_refusing : (n : ℕ) (bits : List Bool) → Refusing (indices_taken n bits)
indices_refusing zero bits = tt
indices_refusing (suc n) bits =
    then_refusing (index_taken bits) (λ index rest. and_then (indices_taken n rest) (λ more. got (index ∷ more))) (index_refusing bits)
    (λ i rest. then_refusing (indices_taken n rest) (λ more. got (i ∷ more)) (indices_refusing n rest) (λ is more. tt))

taken_refusing : (l : Layout) (bits : List Bool) → Refusing (side_info_taken l bits)
unfolding side_info_taken
taken_refusing l bits =
    then_refusing (allocation_taken l bits) (with_steps l)
    (each_refusing (field_taken l) in_slots (λ x bits. then_refusing (number_taken (nbal_of l.table x.subband) bits) (λ p. got (get_or (row_of l.table x.subband) p 0))
    (number_refusing (nbal_of l.table x.subband) bits) (λ p rest. tt)) (fields_of l) nothing.steps bits)
    (λ steps rest. then_refusing (scfsis_taken (active_slots l steps) rest) (with_scfsi l steps)
    (each_refusing scfsi_taken in_slot (λ x bits. then_refusing (number_taken 2 bits) (λ code. got (of_code code)) (number_refusing 2 bits) (λ p rest. tt))
    (active_slots l steps) nothing.scfsi rest)
    (λ scfsi rest. then_refusing (scalefactors_taken scfsi (active_slots l steps) rest) (λ scalefactors. got (side_info steps scfsi scalefactors))
    (each_refusing (λ slot. three_taken (get_or scfsi slot idle_scfsi)) in_granules
    (λ x bits. let s = get_or scfsi x idle_scfsi in then_refusing (indices_taken (parts_of s) bits) (λ is. got (restored s is)) (indices_refusing (parts_of s) bits) (λ p rest. tt))
    (active_slots l steps) nothing.scalefactors rest)
    (λ scalefactors rest. tt)))

module _ (h : FrameHeader) where
  abbrev l : Layout
  l = header_layout h

  pub rest_decides : (s : SideInfo) → number (header_asked h) ≡ 0 → number (writer_asked h s) ≡ number (record_asked l s)
  rest_decides s z = behind 0 (header_asked h) (record_asked l s) ∙ all_yes (number (record_asked l s)) (header_asked h) (refusing_header h) z

  -- ---- what is written of an accepted record

  written_zero : (s : SideInfo) → number (writer_asked h s) ≡ 0 → written_of h s ≡ written 0 (side_info_bits l s)
  unfolding written_of
  written_zero s z = ap (λ (n : ℕ). written n (where_zero n (side_info_bits l s))) z

  pub zero_asked : (s : SideInfo) → (written_of h s).number ≡ 0 → number (writer_asked h s) ≡ 0
  unfolding written_of
  zero_asked s z = z

  bits_back : (bits : List Bool) → length bits ≤ 1388 → take (length bits) (unpacked (packed 174 bits)) ≡ bits
  bits_back bits m = ap (take (length bits)) (unpacked_packed 174 bits (omega arith)) ∙ take_at bits (replicate (8 * 174 - length bits) false) (length bits) refl

  -- ---- what is read of bytes that begin with it

  module _ (bytes : List ℕ) where
    abbrev bits : List Bool
    bits = unpacked bytes

    used : (bs rest : List Bool) → bits ≡ bs ++ rest → length bits - length rest ≡ length bs
    used bs rest e = omega (arith, ap length e, length-append bs rest)

    by_taken : (t : Taken SideInfo) → number (header_asked h) ≡ 0 → side_info_taken l bits ≡ t → read_of h bytes ≡ read_by bits t
    unfolding read_of
    by_taken t z e =
        ap (λ (b : Bool). read_by bits (cond b (side_info_taken l bits) (refused (number (header_asked h))))) (eq-eqb (number (header_asked h)) 0 z) ∙ ap (read_by bits) e

    reads : (s : SideInfo) → number (header_asked h) ≡ 0 → number (record_asked l s) ≡ 0 → Restorable l s
        → take (length (side_info_bits l s)) bits ≡ side_info_bits l s → read_of h bytes ≡ read 0 s (length (side_info_bits l s))
    reads s z a whole e =
        let sent = side_info_bits l s in
        let rest = drop (length sent) bits in
        let all : bits ≡ sent ++ rest = sym (take-append-drop (length sent) bits) ∙ ap (λ (bs : List Bool). bs ++ rest) e in
        by_taken (got s rest) z (ap (side_info_taken l) all ∙ comes_back l s whole (record_yes l s a) rest)
        ∙ ap (read 0 s) (used sent rest all)

  -- ---- what is read is such a record

  module _ (bytes : List ℕ) where
    abbrev slice : List Bool
    slice = unpacked bytes

    -- an accepted answer
    record Accepted (r : ReadAnswer) : Type 0 where
      pub record_read : SideInfo
      pub rest : List Bool
      pub zero : number (header_asked h) ≡ 0
      pub was : WasWritten l slice record_read rest
      pub is : r ≡ read 0 record_read (length (side_info_bits l record_read))

    accepted : (r : ReadAnswer) → r ≡ read_of h bytes → r.number ≡ 0 → Accepted r
    unfolding read_of
    accepted r e z = header (eqb (number (header_asked h)) 0) refl (e, z)
      where
        Answers : Taken SideInfo → Type 0
        Answers t = (r ≡ read_by slice t) × (r.number ≡ 0)

        body : number (header_asked h) ≡ 0 → (t : Taken SideInfo) → side_info_taken l slice ≡ t → Refusing t → Answers t → Accepted r
        body n (got s rest) q f a =
            let w = read_was_written l slice s rest q in
            record { record_read = s; rest = rest; zero = n; was = w; is = a.0 ∙ ap (read 0 s) (used bytes (side_info_bits l s) rest w.sent) }
        body n (refused m) q f a =
            absurd (true≢false (sym (eq-eqb m 0 (sym (ap (λ (v : ReadAnswer). v.number) a.0) ∙ a.1)) ∙ f))

        header : (b : Bool) → eqb (number (header_asked h)) 0 ≡ b → Answers (cond b (side_info_taken l slice) (refused (number (header_asked h)))) → Accepted r
        header true q a = body (eqb-true (number (header_asked h)) 0 q) (side_info_taken l slice) refl (taken_refusing l slice) a
        header false q a =
            absurd (true≢false (sym (eq-eqb (number (header_asked h)) 0 (sym (ap (λ (v : ReadAnswer). v.number) a.0) ∙ a.1)) ∙ q))

    module _ (r : ReadAnswer) (a : Accepted r) where
      abbrev s : SideInfo
      s = a.record_read

      abbrev sent : List Bool
      sent = side_info_bits l s

      count : r.bits_used ≡ length sent
      count = ap (λ (v : ReadAnswer). v.bits_used) a.is

      first : take r.bits_used slice ≡ sent
      first = ap₂ take count a.was.sent ∙ take_at sent a.rest (length sent) refl

      asked : number (record_asked l s) ≡ 0
      asked = record_passes l s a.was.yes

      written_again : written_of h r.info ≡ written 0 (take r.bits_used slice)
      written_again =
          ap (λ (v : ReadAnswer). written_of h v.info) a.is ∙ written_zero s (rest_decides s a.zero ∙ asked) ∙ ap (written 0) (sym first)

    -- whatever the answer: at most the bits of a record, which are at the front
    record Few (r : ReadAnswer) : Type 0 where
      pub most : r.bits_used ≤ 1388
      pub within : r.bits_used ≤ length slice

    few : (r : ReadAnswer) → r ≡ read_of h bytes → Few r
    unfolding read_of
    few r e = subst Few (sym e) (header (eqb (number (header_asked h)) 0))
      where
        body : (t : Taken SideInfo) → side_info_taken l slice ≡ t → Few (read_by slice t)
        body (got s rest) q =
            let u = used bytes (side_info_bits l s) rest (read_was_written l slice s rest q).sent in
            record { most = rw u (most l s); within = omega arith }
        body (refused n) q = record { most = lit≤ tt; within = zero-le }

        header : (b : Bool) → Few (read_by slice (cond b (side_info_taken l slice) (refused (number (header_asked h)))))
        header true = body (side_info_taken l slice) refl
        header false = record { most = lit≤ tt; within = zero-le }

    -- ---- the promises

    pub promises : (r : ReadAnswer) → r ≡ read_of h bytes → ReadIs h bytes r
    promises r e = record {
      whole = e;
      back = λ s z whole alike.
          let asked = zero_asked s z in
          let w = written_zero s asked in
          let n : (written_of h s).bits_used ≡ length (side_info_bits l s) = ap (λ (v : WrittenAnswer). v.bits_used) w in
          let b : (written_of h s).bytes ≡ packed 174 (side_info_bits l s) = ap (λ (v : WrittenAnswer). v.bytes) w in
          let header = both_zero (header_asked h) (record_asked l s) asked in
          e ∙ reads bytes s header (sym (rest_decides s header) ∙ asked) whole
          (ap (λ (k : ℕ). take k slice) (sym n) ∙ alike ∙ ap₂ (λ (k : ℕ) (bs : List ℕ). take k (unpacked bs)) n b ∙ bits_back (side_info_bits l s) (most l s))
          ∙ ap (read 0 s) (sym n);
      again = λ z. written_again r (accepted r e z);
      restorable = λ z. let a = accepted r e z in subst (λ (v : ReadAnswer). Restorable l v.info) (sym a.is) a.was.whole;
      alone = λ z other alike.
          let a = accepted r e z in
          reads other a.record_read a.zero (asked r a) a.was.whole (ap (λ (k : ℕ). take k (unpacked other)) (sym (count r a)) ∙ alike ∙ first r a) ∙ sym a.is;
      there = (few r e).within;
      most = (few r e).most;
    }
