-- `line` puts one number after the other.
use mathlib.Core.Path.{sym, ap, ◌∙◌}
use Prim.Native.Nat.{◌+◌}
use mathlib.Core.List.{◌++◌}
use native.Mathlib.Omega.{arith}
use lib.ListN.{drop}
use Rattle.std.proofs.lemmas.List.{at_drop_more}
use Rattle.report.specs.Printed.{numbers}
use Rattle.report.proofs.Decimal.{number_put}
use Rattle.report.proofs.text.line.Goals as goal

pub push_str-requires-in-loop-v : goal.push_str-requires-in-loop-v
push_str-requires-in-loop-v c =
    (omega arith, omega (arith, c.loop-v.invariant, c.push_str.ensures.len, c.requires, c.loop-v-test.true))

pub loop-v-preserved : goal.loop-v-preserved
loop-v-preserved c = let i = c.loop-v.v-index in
    let vs = c.args.values.now in (
      number_put c.loop-v.text.bytes _ (drop (i + 1) vs) (omega (arith, c.type_inv.values i))
          c.push_str-in-loop-v.ensures.bytes c.format.ensures.text c.push_str-in-loop-v-2.ensures.bytes
          ∙ ap (λ bs. c.loop-v.text.bytes ++ bs) (sym (at_drop_more numbers vs i 0 c.loop-v-test.true))
          ∙ c.loop-v.invariant.0,
      omega (
        arith,
        c.push_str-in-loop-v.ensures.len,
        c.push_str-in-loop-v-2.ensures.len,
        c.format.ensures.fits,
        c.loop-v.invariant.1,
      ),
    )
