-- `first_leaf` is the first cell with the closure's test.
use Rattle.std.proofs.Common.{◌≡◌, rules}
use Rattle.std.proofs.lemmas.Iterator.{first_from_Range}
use Rattle.matching.specs.Graph.{degree}
use Rattle.slots.specs.Working.{graph_in}
use Rattle.finding.proofs.Scans.{leaf_found}
use Rattle.finding.proofs.first_leaf.Goals as goal

pub returns : goal.returns
returns c = let w = graph_in c.args.graph.now in
    leaf_found w c.args.from c.args.to c.find.result
    (first_from_Range _ _ _ _ (λ i. degree 1024 w i ≡ 1) (λ i. degree 1024 w i ≡ 1 → ⊥) c.find.ensures.ran
    (λ x q h. (search rules)) (λ x q h. (search rules)))
