-- `set_out` is a chain of four calls on the second buffer.
use native.Mathlib.Omega.{arith}
use borrow.Author.Rules.{rules}
use Rattle.solving.proofs.Groups.{out_links, out_starts, out_there}
use Rattle.solving.proofs.set_out.Goals as goal

pub link-requires : goal.link-requires
link-requires c =
    let p = c.requires in
    (p.1, out_links p.2)

pub find_starts-requires : goal.find_starts-requires
find_starts-requires c =
    let p = c.requires in
    (p.0, out_starts p.2 (c.link.ensures p.1 (out_links p.2)))

pub returns : goal.returns
returns c = λ w l p.
    let a = c.link.ensures l (out_links p) in
    out_there p a (c.find_starts.ensures w (out_starts p a)) c.blank.ensures
    (omega arith) (search rules)
