-- The table emptied and filled. In order: the table emptied; the pairs entered so far (`Filling`):
-- at the start, where a cell stands twice, after a pair, at the end; the same for the pairs of a file from place i on.
-- Assumes nothing.
use mathlib.Core.Path.{◌≡◌, refl, sym, ap, subst, ◌∙◌}
use mathlib.Core.Logic.{inl, inr, ◌≢◌}
use mathlib.Core.Bool.{Bool, true, false, true≢false}
use mathlib.Core.List.{List, [], ◌∷◌}
use Prim.Native.Nat.{ℕ, suc, ◌+◌, ◌≤◌, ◌<◌}
use native.Mathlib.Omega.{arith}
use lib.Dec.{ltb}
use lib.ListN.{length, get_or, set, take, drop, replicate, length-set, drop_of_length-le}
use borrow.Rule.Slice.PartMut.{put_mid}
use Rattle.buffers.proofs.Filled.{zero_in, same_out}
use lib.Seq.{get_or-set_same, get_or-set_other}
use borrow.Author.Tests.{lt-ltb, ne_eqb}
use Rattle.buffers.specs.Map.{at_table}
use Rattle.matching.specs.Lists.{All, distinct}
use Rattle.matching.specs.Pairs.{Pair, ι, sum, hit}
use Rattle.matching.specs.Pairing.{seen, partner, cells}
use Rattle.matching.proofs.Tests.{Test, pass, fail, eq_test, lt_test, passes, fails}
use Rattle.matching.proofs.Lists.{count, Twice, distinct_test}
use Rattle.matching.proofs.Pairing.{hit_cells}
use Rattle.matching.proofs.Sums.{ι_is, hit_none, hit_left, hit_right, hit_some}
use Rattle.matching.proofs.Partner.{seen_left, seen_right, seen_off}
use Rattle.cellfile.specs.Files.{pairs_of, count_of}
use Rattle.cellfile.specs.Reads.{PairRead}
use Rattle.cellfile.specs.declared.decode.PairEntry.{PairEntry}
use Rattle.cellfile.proofs.Walk.{pairs_count, pair_next, cells_fit}
use Rattle.partners.specs.Table.{TableOnly}
use Rattle.partners.specs.Entering.{Empty, Filled}
use Rattle.partners.proofs.Tags.{tags_short}

trail_on : (w v u : List ℕ) → TableOnly w v → TableOnly v u → TableOnly w u
trail_on w v u p q j l = q j l ∙ p j l

trail_set : (w : List ℕ) (c x : ℕ) → TableOnly w (set w (at_table + c) x)
trail_set w c x j l = get_or-set_other w (at_table + c) j x 0 (omega arith)

-- The word of the table for the cell c.
abbrev pub mate_at : List ℕ → ℕ → ℕ
mate_at w2 c = get_or w2 (at_table + c) 0

-- The table with the word x at the cell c.
table_same : (w : List ℕ) (c x : ℕ) → 8192 ≤ length w → c < 1024 → mate_at (set w (at_table + c) x) c ≡ x
table_same w c x room l = get_or-set_same w (at_table + c) x 0 (omega arith)

pub table_other : (w : List ℕ) (c x d : ℕ) → d ≢ c → mate_at (set w (at_table + c) x) d ≡ mate_at w d
table_other w c x d n = get_or-set_other w (at_table + c) (at_table + d) x 0 (λ e. n (omega arith))

-- ---- the table emptied

module _ (w x : List ℕ) (room : 8192 ≤ length w) (q : x ≡ replicate (length (take 1024 (drop 7168 w))) 0) where
  pub emptied : Empty (put_mid 7168 1024 w x)
  emptied c l = zero_in w x 7168 1024 (omega arith) q (at_table + c) (omega arith) (omega arith)

  pub emptied_only : TableOnly w (put_mid 7168 1024 w x)
  emptied_only j l = same_out w x 7168 1024 (omega arith) q j (inl l)

-- ---- the table filled

-- 1 where there is a partner.
abbrev some : ℕ → ℕ
some x = ι (ltb 0 x)

pub some_not : (x : ℕ) → x ≢ 0 → some x ≡ 1
some_not x n = rw (lt-ltb 0 x (omega arith))

some_most : (x : ℕ) → some x ≤ 1
some_most x = go (ltb 0 x)
  where
    go : (t : Bool) → ι t ≤ 1
    go true = omega arith
    go false = omega arith

hit_both : (c a b : ℕ) → a ≡ c → b ≡ c → hit c a b ≡ 2
unfolding hit
hit_both c a b p q = omega (arith, ι_is a p, ι_is b q)

-- Of all pairs, those before the rest are entered, since the buffer was w: the table and the rest have their partners,
-- and hit their cells.
pub record Filling (all rest : List Pair) (w v : List ℕ) : Type 0 where
  pub mates : (c : ℕ) → c < 1024 → partner c all ≡ mate_at v c + partner c rest
  pub hits : (c : ℕ) → c < 1024 → sum (hit c) all ≡ ι (ltb 0 (mate_at v c)) + sum (hit c) rest
  pub aside : TableOnly w v

pub fill_start : (all : List Pair) (w : List ℕ) → Empty w → Filling all all w w
fill_start all w h = record {
  mates = λ c l. omega (arith, h c l);
  hits = λ c l. rw (h c l) (omega arith);
  aside = λ j l. refl;
}

-- a cell that the pairs hit twice
twice_cell : (all : List Pair) (c : ℕ) → 2 ≤ sum (hit c) all → distinct (cells all) ≡ false
twice_cell all c h = fails (distinct_test (cells all)) (λ once. omega (arith, once c, hit_cells c all))

module _ {all rest : List Pair} {w v : List ℕ} {a b : ℕ} (p : Filling all ((a, b) ∷ rest) w v)
    (room : 8192 ≤ length v) (la : a < 1024) (lb : b < 1024) where
  pub fill_twice_a : mate_at v a ≢ 0 → Filled all w v true
  fill_twice_a n =
      let d = twice_cell all a (omega (arith, p.hits a la, some_not (mate_at v a) n, hit_some a a b (inl refl))) in
      record { answer = rw d; mates = λ e. absurd (true≢false e); aside = p.aside }

  abbrev half : List ℕ
  half = set v (at_table + a) (b + 1)

  half_aside : TableOnly w half
  half_aside = trail_on w v half p.aside (trail_set v a (b + 1))

  pub fill_twice_b : mate_at (set v (at_table + a) (b + 1)) b ≢ 0 → Filled all w (set v (at_table + a) (b + 1)) true
  fill_twice_b n =
      let d = twice_cell all b (go (eq_test b a)) in
      record { answer = rw d; mates = λ e. absurd (true≢false e); aside = half_aside }
    where
      go : {t : Bool} → Test (b ≡ a) (b ≢ a) t → 2 ≤ sum (hit b) all
      go (pass e) = omega (arith, p.hits b lb, hit_both b a b (sym e) refl)
      go (fail m) =
          omega (
            arith,
            p.hits b lb,
            some_not (mate_at v b) (λ z. n (table_other v a (b + 1) b m ∙ z)),
            hit_some b a b (inr refl),
          )

  module _ (za : mate_at v a ≡ 0) (zb : mate_at (set v (at_table + a) (b + 1)) b ≡ 0) where
    apart : b ≢ a
    apart e = omega (arith, table_same v a (b + 1) room la, ap (mate_at half) e, zb)

    abbrev full : List ℕ
    full = set half (at_table + b) (a + 1)

    at_a : mate_at full a ≡ b + 1
    at_a = table_other half b (a + 1) a (λ e. apart (sym e)) ∙ table_same v a (b + 1) room la

    at_b : mate_at full b ≡ a + 1
    at_b = table_same half b (a + 1) (rw length-set room) lb

    at_c : (c : ℕ) → c ≢ a → c ≢ b → mate_at full c ≡ mate_at v c
    at_c c n m = table_other half b (a + 1) c m ∙ table_other v a (b + 1) c n

    was_b : mate_at v b ≡ 0
    was_b = sym (table_other v a (b + 1) b apart) ∙ zb

    mates_go : (c : ℕ) → c < 1024 → {s t : Bool} → Test (c ≡ a) (c ≢ a) s → Test (c ≡ b) (c ≢ b) t
        → mate_at full c ≡ mate_at v c + seen suc c a b
    mates_go c l (pass e) y = rw e (omega (arith, at_a, za, seen_left suc a b))
    mates_go c l (fail n) (pass e) = rw e (omega (arith, at_b, was_b, seen_right suc b a))
    mates_go c l (fail n) (fail m) = omega (arith, at_c c n m, seen_off suc c a b (λ q. n (sym q)) (λ q. m (sym q)))

    hits_go : (c : ℕ) → c < 1024 → {s t : Bool} → Test (c ≡ a) (c ≢ a) s → Test (c ≡ b) (c ≢ b) t
        → some (mate_at full c) ≡ some (mate_at v c) + hit c a b
    hits_go c l (pass e) y =
        rw (e, za, at_a, lt-ltb 0 (b + 1) (omega arith)) (omega (arith, hit_left a b (λ q. apart (sym q))))
    hits_go c l (fail n) (pass e) =
        rw (e, was_b, at_b, lt-ltb 0 (a + 1) (omega arith)) (omega (arith, hit_right a b (λ q. apart (sym q))))
    hits_go c l (fail n) (fail m) = rw (at_c c n m) (omega (arith, hit_none c a b (λ q. n (sym q)) (λ q. m (sym q))))

    pub fill_next : Filling all rest w (set (set v (at_table + a) (b + 1)) (at_table + b) (a + 1))
    fill_next = record {
      mates = λ c l. omega (arith, p.mates c l, mates_go c l (eq_test c a) (eq_test c b));
      hits = λ c l. omega (arith, p.hits c l, hits_go c l (eq_test c a) (eq_test c b));
      aside = trail_on w half full half_aside (trail_set half b (a + 1));
    }

-- cells that are all below 1,024 hit no other
count_none : (c : ℕ) (xs : List ℕ) → All (λ (x : ℕ). x < 1024) xs → 1024 ≤ c → count c xs ≡ 0
count_none c [] p l = refl
count_none c (x ∷ xs) p l = rw (ne_eqb x c (λ e. omega (arith, p.0))) (omega (arith, count_none c xs p.1 l))

fill_end : {all : List Pair} {w v : List ℕ} → Filling all [] w v → All (λ (x : ℕ). x < 1024) (cells all)
    → Filled all w v false
fill_end {all} {w} {v} p low = record {
  answer = rw (passes (distinct_test (cells all)) once);
  mates = λ e c l. omega (arith, p.mates c l, tags_short c all);
  aside = p.aside;
}
  where
    once : Twice (cells all) → ⊥
    once (c, t) = go (lt_test c 1024)
      where
        go : {s : Bool} → Test (c < 1024) (1024 ≤ c) s → ⊥
        go (pass l) = omega (arith, p.hits c l, some_most (mate_at v c), hit_cells c all)
        go (fail l) = omega (arith, count_none c (cells all) low l)

-- ---- the pairs of a file

module _ (s w : List ℕ) where
  abbrev Before : List Pair → List ℕ → Type 0
  Before rest v = Filling (pairs_of s) rest w v

  module _ (i : ℕ) {v : List ℕ} (p : Filling (pairs_of s) (drop i (pairs_of s)) w v) where
    pub fill_here : i < count_of s → {e : PairEntry} → PairRead s i e
        → Filling (pairs_of s) ((e.a, e.b) ∷ drop (i + 1) (pairs_of s)) w v
    fill_here l {e} r = subst (λ rest. Before rest v) (pair_next s i e l r) p

    pub fill_last : count_of s ≤ i → Filled (pairs_of s) w v false
    fill_last l =
        fill_end (subst (λ rest. Before rest v)
        (drop_of_length-le (pairs_of s) {i = i} (omega (arith, pairs_count s))) p)
        (cells_fit 1024 s (omega arith))
