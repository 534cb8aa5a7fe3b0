-- `table_selection::table_for` meets its contract: at each key of an arm antt computes the headings' table, and off the keys no heading has the rate.
use mathlib.Core.Path.{refl}
use mathlib.Core.List.{◌++◌}
use borrow.Author.Rules.{rules}
use Rattle.tables.specs.Search.{one_of}
use Rattle.tables.proofs.Keys.{no_key, no_key_either}
use Rattle.bitalloc.specs.declared.BitAllocTable.TheVariants.{B2a, B2b, B2c, B2d}
use Rattle.table_selection.specs.Select.{headings, table_at}
use Rattle.table_selection.proofs.SelectLaws.{low, middle, high, arm, covers, off_keys, off_three}
use Rattle.table_selection.proofs.table_for.Goals as goal

pub returns-in-32 : goal.returns-in-32
unfolding table_at one_of
returns-in-32 c = arm B2c 48_000 _ low _ c.in-48000.is (refl, (refl, tt)) c.in-32.is

pub returns-in-56 : goal.returns-in-56
unfolding table_at one_of
returns-in-56 c = arm B2a 48_000 _ (middle ++ high) _ c.in-48000.is (refl, (refl, (refl, (refl, (refl, (refl, (refl, (refl, tt)))))))) c.in-56.is

pub returns-in_default-per_channel : goal.returns-in_default-per_channel
unfolding covers headings one_of
returns-in_default-per_channel c =
    let n = c.args.per_channel in
    off_keys 48_000 _ n c.in-48000.is tt (no_key low n (search rules)) (no_key (middle ++ high) n (search rules))

pub returns-in-32-per_channel : goal.returns-in-32-per_channel
unfolding table_at one_of
returns-in-32-per_channel c = arm B2c 44_100 _ low _ c.in-44100.is (refl, (refl, tt)) c.in-32-per_channel.is

pub returns-in-56-per_channel : goal.returns-in-56-per_channel
unfolding table_at one_of
returns-in-56-per_channel c = arm B2a 44_100 _ middle _ c.in-44100.is (refl, (refl, (refl, tt))) c.in-56-per_channel.is

pub returns-in-96 : goal.returns-in-96
unfolding table_at one_of
returns-in-96 c = arm B2b 44_100 _ high _ c.in-44100.is (refl, (refl, (refl, (refl, (refl, tt))))) c.in-96.is

pub returns-in_default-per_channel-2 : goal.returns-in_default-per_channel-2
unfolding covers headings one_of
returns-in_default-per_channel-2 c =
    let n = c.args.per_channel in
    off_keys 44_100 _ n c.in-44100.is tt (no_key low n (search rules))
    (no_key_either middle high n (no_key middle n (search rules)) (no_key high n (search rules)))

pub returns-in-32-per_channel-2 : goal.returns-in-32-per_channel-2
unfolding table_at one_of
returns-in-32-per_channel-2 c = arm B2d 32_000 _ low _ c.in-32000.is (refl, (refl, tt)) c.in-32-per_channel-2.is

pub returns-in-56-per_channel-2 : goal.returns-in-56-per_channel-2
unfolding table_at one_of
returns-in-56-per_channel-2 c = arm B2a 32_000 _ middle _ c.in-32000.is (refl, (refl, (refl, tt))) c.in-56-per_channel-2.is

pub returns-in-96-per_channel : goal.returns-in-96-per_channel
unfolding table_at one_of
returns-in-96-per_channel c = arm B2b 32_000 _ high _ c.in-32000.is (refl, (refl, (refl, (refl, (refl, tt))))) c.in-96-per_channel.is

pub returns-in_default-per_channel-3 : goal.returns-in_default-per_channel-3
unfolding covers headings one_of
returns-in_default-per_channel-3 c =
    let n = c.args.per_channel in
    off_keys 32_000 _ n c.in-32000.is tt (no_key low n (search rules))
    (no_key_either middle high n (no_key middle n (search rules)) (no_key high n (search rules)))

pub returns-in_default : goal.returns-in_default
returns-in_default c = off_three _ _ (search rules) (search rules) (search rules)
