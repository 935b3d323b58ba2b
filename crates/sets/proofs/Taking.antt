-- The lowest place of a set is taken out, with its partner in the heaviest pairing, which the set's word tells. In
-- order: the partner is in the rest (`partner_in`); what is taken where there is no partner (`takes_alone`) and where
-- there is one (`takes_pair`).
use mathlib.Core.Path.{◌≡◌, sym, ap, ◌∙◌}
use mathlib.Core.List.{List}
use Rattle.std.specs.Prelude.{None, Some}
use Prim.Native.Nat.{ℕ, ◌-◌, ◌/◌, ◌%◌, ◌^◌, ◌<◌}
use native.Mathlib.Omega.{arith}
use lib.Pow.{pow_pos}
use Rattle.sets.specs.Sets.{heaviest, Lowest, partnered, partner_told, with_partner, Best, Takes}
use Rattle.sets.proofs.Places.{without_first}

module _ {ws : List ℕ} {s b c v : ℕ} (h : Best ws s v) (e : b ≡ 2 ^ c) (l : Lowest c s) where
  fewer : s - b < s
  fewer = omega (arith, e, pow_pos c, (without_first c s e l).0)

  pub takes_alone : partner_told v ≡ None → Takes ws s (record { low = c; partner = None; rest = s - b })
  takes_alone z = record {
    low = l.0;
    partner = tt;
    fewer = fewer;
    leads = (h.leads e l).1 ∙ ap (partnered ws c (s - b)) z;
  }

  module _ {p : ℕ} (q : partner_told v ≡ Some p) where
    pub partner_in : (p < 12) × ((s - b) / 2 ^ p % 2 ≡ 1)
    partner_in = rw q at (h.leads e l).0

    pub takes_pair : {d : ℕ} → d ≡ 2 ^ p → Takes ws s (record { low = c; partner = Some p; rest = s - b - d })
    takes_pair {d} o = record {
      low = l.0;
      partner = partner_in.0;
      fewer = omega (arith, fewer);
      leads = (h.leads e l).1 ∙ ap (partnered ws c (s - b)) q
          ∙ ap (λ x. with_partner c (Some p) (heaviest ws (s - b - x))) (sym o);
    }
