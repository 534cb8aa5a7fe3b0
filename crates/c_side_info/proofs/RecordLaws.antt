-- Laws of a record's slices, and of the record with its header.
use Rattle.std.specs.Prelude.{Option, None, Some}
use Rattle.std.proofs.Common.{◌≡◌, ℕ, Bool, true, false, cond, ◌||◌, List, map, refl, sym, ap, ◌∙◌, Result, Ok, Err, le-ltb}
use Rattle.std.specs.Array.{IsFirstChunk}
use Rattle.header.specs.declared.FrameHeader.{FrameHeader}
use Rattle.side_info.specs.declared.SideInfo.{SideInfo}
use Rattle.side_info.specs.SideInfo.{side_info}
use Rattle.c_answers.specs.declared.refusal.Refusal.{Refusal}
use Rattle.c_answers.specs.Answers.{Meaning, refused, meant, asked}
use Rattle.c_answers.specs.Refusals.{refusal_number, meaning_in}
use Rattle.c_side_info.specs.declared.record.Frame.{Frame}
use Rattle.c_side_info.specs.Arguments.{short_record, are_codes, coded, record_in, frame, framed}

-- what a record makes of a header's meaning
abbrev with_record : Option SideInfo → Meaning FrameHeader → Meaning Frame
with_record s (refused n) = refused n
with_record None (meant h) = refused 14
with_record (Some s) (meant h) = meant (frame h s)

header_first : (short : Bool) (o : Option FrameHeader) (s : Option SideInfo) → asked short (framed o s) ≡ with_record s (asked short o)
header_first true o s = refl
header_first false None s = refl
header_first false (Some h) None = refl
header_first false (Some h) (Some s) = refl

-- The slices begin with ys, cs and xs; and r is what the header's numbers mean.
module _
    (steps scfsi index ys cs xs : List ℕ)
    (s : IsFirstChunk steps ys 64)
    (k : IsFirstChunk scfsi cs 64)
    (x : IsFirstChunk index xs 192)
    (short : Bool)
    (o : Option FrameHeader)
    (r : Result FrameHeader Refusal)
    (asks : meaning_in r ≡ asked short o)
  where
    -- the record, where the codes are codes
    whole : Bool → Option SideInfo
    whole known = cond known (Some (side_info ys (map coded cs) xs)) None

    all_read : record_in steps scfsi index ≡ whole (are_codes cs)
    unfolding record_in whole
    all_read = rw (s.same, k.same, x.same) refl

    frame_read : (known : Bool) → are_codes cs ≡ known → asked (short_record steps scfsi index || short) (framed o (record_in steps scfsi index)) ≡ with_record (whole known) (meaning_in r)
    frame_read known e = rw (le-ltb _ _ s.enough, le-ltb _ _ k.enough, le-ltb _ _ x.enough, all_read, e) (header_first short o (whole known) ∙ ap (with_record (whole known)) (sym asks))

    pub no_header : (e : Refusal) → r ≡ Err e → refused (refusal_number e) ≡ asked (short_record steps scfsi index || short) (framed o (record_in steps scfsi index))
    no_header e p = sym (frame_read (are_codes cs) refl ∙ ap (λ q. with_record (whole (are_codes cs)) (meaning_in q)) p)

    pub no_codes : (h : FrameHeader) → r ≡ Ok h → are_codes cs ≡ false → refused 14 ≡ asked (short_record steps scfsi index || short) (framed o (record_in steps scfsi index))
    unfolding whole
    no_codes h p e = sym (frame_read false e ∙ ap (λ q. with_record (whole false) (meaning_in q)) p)

    pub a_frame : (h : FrameHeader) → r ≡ Ok h → are_codes cs ≡ true
        → meant (frame h (side_info ys (map coded cs) xs)) ≡ asked (short_record steps scfsi index || short) (framed o (record_in steps scfsi index))
    unfolding whole
    a_frame h p e = sym (frame_read true e ∙ ap (λ q. with_record (whole true) (meaning_in q)) p)
