-- `side_info_writer::put_sent` meets its contract: the indices that each scfsi sends.
use mathlib.Core.Path.{◌≡◌, sym, ap, ap₂, ◌∙◌}
use mathlib.Core.Bool.{Bool}
use mathlib.Core.List.{List, ◌++◌, flat_map}
use Prim.Native.Nat.{ℕ}
use native.Mathlib.Omega.{arith}
use lib.Dec.{lit≤}
use Rattle.audio_data.specs.declared.Scfsi.{Scfsi}
use Rattle.audio_data.specs.Scfsi.{parts_of, three_in, sent}
use Rattle.bit_string.specs.Bits.{bits_of}
use Rattle.side_info_writer.proofs.PartLaws.{tabled_each, one_more, room, two_parts, parts_least, three_sent, two_sent, one_sent}
use Rattle.side_info_writer.proofs.put_sent.Goals as goal

abbrev behind : List Bool → ℕ → List Bool
behind bs i = bs ++ bits_of 6 i

pub put-requires : goal.put-requires
put-requires c =
    let t = three_in c.args.indices in
    let small = tabled_each t c.requires.0 in
    let fits = room t _ c.args.scfsi c.requires.1 in
    (lit≤ tt, omega (arith, small.first, small.second, small.third, c.from.ensures), omega (arith, fits, parts_least c.args.scfsi))

pub put-requires-in-ThreePerGranule : goal.put-requires-in-ThreePerGranule
put-requires-in-ThreePerGranule c =
    let t = three_in c.args.indices in
    let small = tabled_each t c.requires.0 in
    let fits = room t _ c.args.scfsi c.requires.1 in
    let parts : parts_of c.args.scfsi ≡ 3 = ap parts_of c.in-ThreePerGranule.is in
    let one = one_more _ _ _ c.put.ensures in
    (lit≤ tt, omega (arith, small.first, small.second, small.third, c.from-in-ThreePerGranule.ensures), omega (arith, fits, parts, one))

pub put-requires-in-ThreePerGranule-2 : goal.put-requires-in-ThreePerGranule-2
put-requires-in-ThreePerGranule-2 c =
    let t = three_in c.args.indices in
    let small = tabled_each t c.requires.0 in
    let fits = room t _ c.args.scfsi c.requires.1 in
    let parts : parts_of c.args.scfsi ≡ 3 = ap parts_of c.in-ThreePerGranule.is in
    let one = one_more _ _ _ c.put.ensures in
    let two = one_more _ _ _ c.put-in-ThreePerGranule.ensures in
    (lit≤ tt, omega (arith, small.first, small.second, small.third, c.from-in-ThreePerGranule-2.ensures), omega (arith, fits, parts, one, two))

pub put-requires-in-Share01Then2 : goal.put-requires-in-Share01Then2
put-requires-in-Share01Then2 c =
    let t = three_in c.args.indices in
    let small = tabled_each t c.requires.0 in
    let fits = room t _ c.args.scfsi c.requires.1 in
    let parts = two_parts c.args.scfsi c.in-Share01Then2.is in
    let one = one_more _ _ _ c.put.ensures in
    (lit≤ tt, omega (arith, small.first, small.second, small.third, c.from-in-Share01Then2.ensures), omega (arith, fits, parts, one))

pub returns-in-ThreePerGranule : goal.returns-in-ThreePerGranule
returns-in-ThreePerGranule c =
    let t = three_in c.args.indices in
    let start = c.args.writer.now in
    let first = c.put.ensures ∙ ap (behind start) c.from.ensures in
    let second = c.put-in-ThreePerGranule.ensures ∙ ap₂ behind first c.from-in-ThreePerGranule.ensures in
    c.put-in-ThreePerGranule-2.ensures ∙ ap₂ behind second c.from-in-ThreePerGranule-2.ensures
    ∙ three_sent t start ∙ ap (λ (s : Scfsi). start ++ flat_map (bits_of 6) (sent s t)) (sym c.in-ThreePerGranule.is)

pub returns-in-Share01Then2 : goal.returns-in-Share01Then2
returns-in-Share01Then2 c =
    let t = three_in c.args.indices in
    let start = c.args.writer.now in
    let first = c.put.ensures ∙ ap (behind start) c.from.ensures in
    c.put-in-Share01Then2.ensures ∙ ap₂ behind first c.from-in-Share01Then2.ensures ∙ two_sent t start c.args.scfsi c.in-Share01Then2.is

pub returns-in-ShareAll : goal.returns-in-ShareAll
returns-in-ShareAll c =
    let t = three_in c.args.indices in
    let start = c.args.writer.now in
    c.put.ensures ∙ ap (behind start) c.from.ensures
    ∙ one_sent t start ∙ ap (λ (s : Scfsi). start ++ flat_map (bits_of 6) (sent s t)) (sym c.in-ShareAll.is)
