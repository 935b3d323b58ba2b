-- `has_loose` finds an entry that refusal 13 names.
use Rattle.std.proofs.Common.{arith, rules}
use Rattle.matching.specs.Listed.{Entry}
use Rattle.cellfile.specs.Files.{entries_all}
use Rattle.cellfile.specs.Words.{no_entry}
use Rattle.cellfile.proofs.Walk.{entries_count}
use Rattle.checks.specs.Refusals.{loose_pair}
use Rattle.checks.proofs.Places.{any_from_places}
use Rattle.checks.proofs.Forms.{loose_at}
use Rattle.checks.proofs.has_loose.Goals as goal

pub returns : goal.returns
returns c = let l = c.args.entries.now in
    let s = l.file.now in
    any_from_places (λ (e : Entry). loose_pair l.n e.0 e.1) (entries_all s) no_entry _ _ _ _ c.any.ensures.ran
    (omega (arith, l.whole.count, entries_count s)) (λ i b q h. search (rules, loose_at))
