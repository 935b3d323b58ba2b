-- What is known of sets. In order: a buffer that keeps it (`Kept`) through calls and where a set becomes known; a part
-- of a buffer set to zero (`part_zero`), and of the table, so that nothing is known of its sets (`part_cleared`); being
-- ready then (`ready_forgotten`), and after a call for a smaller set (`ready_kept`).
use mathlib.Core.Path.{◌≡◌, refl, sym, ap, ◌∙◌}
use mathlib.Core.Logic.{◌≢◌}
use mathlib.Core.Bool.{Bool}
use mathlib.Core.List.{List, ◌++◌}
use Prim.Native.Nat.{ℕ, ◌+◌, ◌-◌, ◌^◌, ◌≤◌, ◌<◌}
use native.Mathlib.Omega.{arith}
use borrow.Rule.Slice.PartMut.{mid_of, post_of, put_mid, same_len_mid, mid_len, take_put}
use lib.ListN.{length, length-set, length-replicate, get_or, get_or-replicate, set, take, get_or-append}
use lib.Seq.{get_or-set_same, get_or-set_other, take-set-le, length-take-le, get_or-drop, drop_at}
use lib.Pow.{pow_pos, pow_mono}
use Rattle.buffers.specs.Map.{unit, at_sets}
use Rattle.buffers.specs.Buffers.{zeros}
use Rattle.matching.proofs.Tests.{Test, pass, fail, eq_test}
use Rattle.sets.specs.Sets.{Best, Known, Kept, Ready, Forgotten}

-- ---- what is known stays

pub kept_none : {ws w : List ℕ} {k : ℕ} → Known ws k w → Kept ws k w w
kept_none k = record { long = refl; known = k; front = refl }

pub kept_all : {ws w0 w1 w2 : List ℕ} {k : ℕ} → Kept ws k w0 w1 → Kept ws k w1 w2 → Kept ws k w0 w2
kept_all a b = record { long = b.long ∙ a.long; known = b.known; front = b.front ∙ a.front }

pub kept_more : {ws w0 w1 : List ℕ} {k : ℕ} (s v : ℕ) → at_sets + s < length w1 → Best ws s v → Kept ws k w0 w1
    → Kept ws k w0 (set w1 (at_sets + s) v)
kept_more {ws} {w0} {w1} {k} s v l b h = record {
  long = length-set w1 (at_sets + s) v ∙ h.long;
  known = λ x m. go x m (eq_test x s);
  front = take-set-le at_sets w1 (at_sets + s) v (omega arith) ∙ h.front;
}
  where
    after : List ℕ
    after = set w1 (at_sets + s) v

    go : (x : ℕ) → x < 2 ^ k → {t : Bool} → Test (x ≡ s) (x ≢ s) t → 0 < get_or after (at_sets + x) 0
        → Best ws x (get_or after (at_sets + x) 0)
    go x m (pass q) = λ n. rw (q, get_or-set_same w1 (at_sets + s) v 0 l) b
    go x m (fail q) =
        rw (get_or-set_other w1 (at_sets + s) (at_sets + x) v 0 (λ z. q (omega (arith, z)))) (h.known x m)

-- ---- the table is cleared

-- a part of a buffer is filled with zeros
pub part_zero : (a e : ℕ) (w ys : List ℕ) → a ≤ e → e ≤ length w → ys ≡ zeros (length (mid_of a (e - a) w))
    → (j : ℕ) → j < e - a → get_or (put_mid a (e - a) w ys) (a + j) 0 ≡ 0
part_zero a e w ys n l z j m =
    sym (get_or-drop a (put_mid a (e - a) w ys) j 0)
    ∙ ap (λ (xs : List ℕ). get_or xs j 0) (drop_at (take a w) (ys ++ post_of a (e - a) w) a
    (length-take-le a w (omega arith)))
    ∙ get_or-append ys (post_of a (e - a) w) 0 j (omega (arith, ap length z, all, long))
    ∙ ap (λ (xs : List ℕ). get_or xs j 0) z
    ∙ get_or-replicate {A = ℕ} (length (mid_of a (e - a) w)) j 0 0 (omega (arith, long))
  where
    all : length (zeros (length (mid_of a (e - a) w))) ≡ length (mid_of a (e - a) w)
    all = length-replicate {A = ℕ} (length (mid_of a (e - a) w)) 0

    long : length (mid_of a (e - a) w) ≡ e - a
    long = mid_len a e w l

pub part_cleared : (w ys : List ℕ) (k e : ℕ) → 8192 ≤ length w → k ≤ 12 → e ≡ at_sets + 2 ^ k
    → ys ≡ zeros (length (mid_of at_sets (e - at_sets) w)) → Forgotten k w (put_mid at_sets (e - at_sets) w ys)
part_cleared w ys k e room few q z =
    let m : 2 ^ k ≤ 2 ^ 12 = pow_mono few in
    record {
      long = same_len_mid at_sets (e - at_sets) w ys
          (ap length z ∙ length-replicate {A = ℕ} (length (mid_of at_sets (e - at_sets) w)) 0);
      none = λ s l. part_zero at_sets e w ys (omega (arith, q)) (omega (arith, q)) z s (omega (arith, q));
      front = take_put at_sets (e - at_sets) w ys (omega arith);
    }

-- ---- being ready

pub ready_small : {ws w1 : List ℕ} {k s : ℕ} → Ready ws w1 k s → s < 4096
ready_small {k = k} r = (let m : 2 ^ k ≤ 2 ^ 12 = pow_mono r.few in omega (arith, r.within))

pub ready_forgotten : {ws w0 w1 : List ℕ} {k s : ℕ} → Forgotten k w0 w1 → k ≤ 12 → s ≡ 2 ^ k - 1 → 144 ≤ length ws
    → 8192 ≤ length w0 → ((i : ℕ) → i < 144 → get_or ws i 0 < unit) → Ready ws w1 k s
ready_forgotten {k = k} f l e m n h = record {
  few = l;
  within = omega (arith, e, pow_pos k);
  words = m;
  room = omega (arith, f.long);
  light = h;
  known = λ x b c. absurd (omega (arith, c, f.none x b));
}

pub ready_kept : {ws w0 w1 : List ℕ} {k s x : ℕ} → Ready ws w0 k s → Kept ws k w0 w1 → x ≤ s → Ready ws w1 k x
ready_kept r k l = record {
  few = r.few;
  within = omega (arith, r.within);
  words = r.words;
  room = omega (arith, r.room, k.long);
  light = r.light;
  known = k.known;
}
