-- The kinds and the rules as the program has them. Inner contracts cite this.
use Rattle.matching.specs.Steps.{Rule, by_leaf, by_ring, by_chain}
use Rattle.cellfile.specs.Files.{Layout, store_list, short_list, slip, pairing, origin_list, raw_list}
use Rattle.cellfile.specs.declared.format.Kind as kinds
use Rattle.cellfile.specs.declared.format.Kind.TheVariants.{StoreList, ShortList, Slip, Pairing, OriginList, RawList}
use Rattle.cellfile.specs.declared.format.Rule as rules
use Rattle.cellfile.specs.declared.format.Rule.TheVariants.{Leaf, Ring, Chain}

-- The layout of a kind, and the rule that a value of the program's enum stands for.
abbrev pub layout_of : kinds.Kind → Layout
layout_of StoreList = store_list
layout_of ShortList = short_list
layout_of Slip = slip
layout_of Pairing = pairing
layout_of OriginList = origin_list
layout_of RawList = raw_list

abbrev pub as_rule : rules.Rule → Rule
as_rule Leaf = by_leaf
as_rule Ring = by_ring
as_rule Chain = by_chain
