-- The pairs of a table of partners. In order: a pairing of n cells has at most n / 2 pairs (`pairing_half`), and the
-- words of its partners are at most n (`partner_most`); the pairs read off the partners of ascending cells are the
-- pairing in file order (`pairs_filed`), and their records those of its origin list (`records_filed`); the pairs read
-- so far, as words (`Reading`): at the start, after a cell with a partner above it or another, at the end. Assumes
-- nothing.
use mathlib.Core.Path.{◌≡◌, refl, sym, ap, ap₂, ◌∙◌, fun_ext}
use mathlib.Core.Logic.{◌⊎◌, inl, inr, ◌≢◌}
use mathlib.Core.Bool.{Bool, true, false, cond}
use mathlib.Core.List.{List, [], ◌∷◌, ◌++◌, map, map-append, append-nil}
use Prim.Native.Nat.{ℕ, zero, suc, ◌+◌, ◌*◌, ◌-◌, ◌%◌, ◌≤◌, ◌<◌}
use native.Mathlib.Omega.{arith}
use native.Mathlib.Numerals.{add-one}
use lib.Dec.{ltb}
use lib.ListN.{length, get_or, set, take, drop, length-append, length-drop}
use lib.Seq.{take-suc-set, take-set-le, drop-set-lt, drop-set-add}
use borrow.Author.Tests.{lt-ltb, le-ltb}
use Rattle.buffers.specs.Map.{at_table, at_origins, partner_field}
use Rattle.matching.specs.Lists.{All}
use Rattle.matching.specs.Pairs.{Pair, Points, sum, Each, hit, like, without}
use Rattle.matching.specs.Pairing.{Once, partner, cells}
use Rattle.matching.specs.Listed.{filed}
use Rattle.matching.specs.Origin.{Origins}
use Rattle.matching.proofs.Tests.{Test, pass, fail, eq_test, lt_test, passes}
use Rattle.matching.proofs.Pairs.{Same}
use Rattle.matching.proofs.Lists.{Twice, distinct_test}
use Rattle.matching.proofs.Pairing.{hit_cells}
use Rattle.matching.proofs.Alls.{all_mem}
use Rattle.matching.proofs.Upto.{sum_to, sum_to_at, distinct_length}
use Rattle.matching.proofs.Sums.{sum_append, sum_none, each_map, each_append, zero_like, like_self, like_flip}
use Rattle.matching.proofs.Sums.{like_turned, like_once, like_hit}
use Rattle.matching.proofs.Filed.{InOrder, SamePairs, filed_sum, filed_in_order, in_order_same}
use Rattle.matching.proofs.Partner.{partner_none, partner_view, partner_of, held_sum, held_free}
use Rattle.cellfile.specs.Fields.{packed}
use Rattle.cellfile.specs.Words.{pair_word, word_of_origin}
use Rattle.partners.specs.Table.{Within, record_in, TableThere, Listed}
use Rattle.partners.proofs.Tags.{like_within, tag_partner, tag_small, tag_record}

-- ---- how many pairs, and which partners

cells_length : (m : List Pair) → length (cells m) ≡ 2 * length m
cells_length [] = refl
cells_length (e ∷ m) = omega (arith, cells_length m)

cells_below : (n : ℕ) (m : List Pair) → Within n m → All (λ (c : ℕ). c < n) (cells m)
cells_below n [] p = tt
cells_below n (e ∷ m) p = (p.0.0, (p.0.1, cells_below n m p.1))

pub pairing_half : (n : ℕ) (m : List Pair) → Within n m → Once m → 2 * length m ≤ n
pairing_half n m p o =
    omega (
      arith,
      cells_length m,
      distinct_length n (cells m) (passes (distinct_test (cells m)) once)
          (λ c h. all_mem (λ k. k < n) (cells m) (cells_below n m p) c h),
    )
  where
    once : Twice (cells m) → ⊥
    once t = omega (arith, t.1, hit_cells t.0 m, o t.0)

length_sum : (m : List Pair) → sum (λ a b. 1) m ≡ length m
length_sum [] = refl
length_sum (e ∷ m) = omega (arith, length_sum m)

filed_length : (m : List Pair) → length (filed m) ≡ length m
filed_length m =
    omega (arith, length_sum (filed m), length_sum m, filed_sum (λ a b. 1) (λ a b. refl) m)

pub partner_most : (n c : ℕ) (m : List Pair) → Within n m → Once m → partner c m ≤ n
partner_most n c m p o = go (partner_view c m)
  where
    go : (sum (hit c) m ≡ 0) ⊎ ((b : ℕ) × (1 ≤ sum (like c b) m)) → partner c m ≤ n
    go (inl z) = omega (arith, partner_none c m z)
    go (inr (b, h)) = omega (arith, partner_of c b m o h, (like_within n c b m p h).1)

-- ---- the pairs read off the partners

-- The record of a pair by the table.
abbrev record_at : List ℕ → Pair → ℕ
record_at w2 e = record_in e.0 (get_or w2 (at_table + e.0) 0)

-- The cells below k whose partner, of which f gives the number and 1, is above them, each with its partner.
abbrev pub pair_at : (ℕ → ℕ) → ℕ → List Pair
pair_at f c = cond (ltb (suc c) (f c)) ((c, f c - 1) ∷ []) []

abbrev pub pairs_below : (ℕ → ℕ) → ℕ → List Pair
pairs_below f zero = []
pairs_below f (suc c) = pairs_below f c ++ pair_at f c

pub pairs_agree : (f g : ℕ → ℕ) (k : ℕ) → ((c : ℕ) → c < k → f c ≡ g c) → pairs_below f k ≡ pairs_below g k
pairs_agree f g zero h = refl
pairs_agree f g (suc c) h =
    ap₂ (λ (x y : List Pair). x ++ y) (pairs_agree f g c (λ d l. h d (omega arith)))
    (ap (λ (x : ℕ). cond (ltb (suc c) x) ((c, x - 1) ∷ []) []) (h c (omega arith)))

module _ (f : ℕ → ℕ) where
  at_each : (P : ℕ → ℕ → Type 0) (c : ℕ) → (suc c < f c → P c (f c - 1)) → Each P (pair_at f c)
  at_each P c h = go (lt_test (suc c) (f c))
    where
      go : {t : Bool} → Test (suc c < f c) (f c ≤ suc c) t → Each P (cond t ((c, f c - 1) ∷ []) [])
      go (pass l) = (h l, tt)
      go (fail l) = tt

  below_each : (k : ℕ) → Each (λ a b. (a < k) × (a < b)) (pairs_below f k)
  below_each zero = tt
  below_each (suc c) =
      each_append (λ a b. (a < suc c) × (a < b)) (pairs_below f c) (pair_at f c)
      (each_map (λ a b p. (omega (arith, p.0), p.1)) (pairs_below f c) (below_each c))
      (at_each (λ a b. (a < suc c) × (a < b)) c (λ l. (omega arith, omega arith)))

  in_order_append : (k : ℕ) (m l : List Pair) → Each (λ a b. (a < k) × (a < b)) m → Each (λ a b. k ≤ a) l
      → InOrder m → InOrder l → InOrder (m ++ l)
  in_order_append k [] l p q o r = r
  in_order_append k (e ∷ m) l p q o r = (
    o.0,
    (
      each_append (λ a b. e.0 < a) m l o.1.0 (each_map (λ a b h. omega (arith, h, p.0.0)) l q),
      in_order_append k m l p.1 q o.1.1 r,
    ),
  )

  at_in_order : (c : ℕ) → InOrder (pair_at f c)
  at_in_order c = go (lt_test (suc c) (f c))
    where
      go : {t : Bool} → Test (suc c < f c) (f c ≤ suc c) t → InOrder (cond t ((c, f c - 1) ∷ []) [])
      go (pass l) = (omega arith, (tt, tt))
      go (fail l) = tt

  below_in_order : (k : ℕ) → InOrder (pairs_below f k)
  below_in_order zero = tt
  below_in_order (suc c) =
      in_order_append c (pairs_below f c) (pair_at f c) (below_each c) (at_each (λ a b. c ≤ a) c (λ l. omega arith))
      (below_in_order c) (at_in_order c)

  -- a sum over them, by cells
  abbrev term : Points → ℕ → ℕ
  term g c = cond (ltb (suc c) (f c)) (g c (f c - 1)) 0

  below_sum : (g : Points) (k : ℕ) → sum g (pairs_below f k) ≡ sum_to k (term g)
  unfolding sum_to
  below_sum g zero = refl
  below_sum g (suc c) =
      sum_append g (pairs_below f c) (pair_at f c) ∙ ap₂ (λ (x y : ℕ). x + y) (below_sum g c) (go (ltb (suc c) (f c)))
    where
      go : (t : Bool) → sum g (cond t ((c, f c - 1) ∷ []) []) ≡ cond t (g c (f c - 1)) 0
      go true = omega arith
      go false = refl

  -- of the pair a, b only the cell a tells
  term_only : (a b : ℕ) → a < b → (c : ℕ) → c ≢ a → term (like a b) c ≡ 0
  term_only a b l c n = go (lt_test (suc c) (f c))
    where
      no : suc c < f c → Same a b c (f c - 1) → ⊥
      no k (inl q) = n q.0
      no k (inr q) = omega (arith, q.0, q.1)

      go : {t : Bool} → Test (suc c < f c) (f c ≤ suc c) t → cond t (like a b c (f c - 1)) 0 ≡ 0
      go (pass k) = zero_like a b c (f c - 1) (no k)
      go (fail k) = refl

  term_none : (g : Points) (c : ℕ) → f c ≤ suc c → term g c ≡ 0
  term_none g c h = rw (le-ltb (suc c) (f c) h)

  term_some : (g : Points) (c : ℕ) → suc c < f c → term g c ≡ g c (f c - 1)
  term_some g c h = rw (lt-ltb (suc c) (f c) h)

  below_like : (a b k : ℕ) → a < b → (k ≤ a → f a ≡ 0) → sum (like a b) (pairs_below f k) ≡ term (like a b) a
  below_like a b k l z = below_sum (like a b) k ∙ go (lt_test a k)
    where
      go : {t : Bool} → Test (a < k) (k ≤ a) t → sum_to k (term (like a b)) ≡ term (like a b) a
      go (pass h) = (sum_to_at a (term (like a b)) (term_only a b l) k).0 h
      go (fail h) =
          (sum_to_at a (term (like a b)) (term_only a b l) k).1 h
          ∙ sym (term_none (like a b) a (omega (arith, z h)))

module _ (n : ℕ) (m : List Pair) (p : Within n m) (o : Once m) where
  abbrev of : ℕ → ℕ
  of c = partner c m

  up_like : (a b : ℕ) → a < b → term of (like a b) a ≡ sum (like a b) m
  up_like a b l = go (partner_view a m)
    where
      -- the partner is x
      found : (x : ℕ) → 1 ≤ sum (like a x) m → of a ≡ suc x → {t : Bool} → Test (b ≡ x) (b ≢ x) t
          → term of (like a b) a ≡ sum (like a b) m
      found x h e (pass q) =
          let k : 1 ≤ sum (like a b) m = rw q h in
          let y : of a - 1 ≡ b = omega arith in
          term_some of (like a b) a (omega arith) ∙ ap (like a b a) y
          ∙ omega (arith, like_self a b, like_once a b m o)
      found x h e (fail q) = zero (lt_test (suc a) (of a)) ∙ sym none
        where
          no : Same a b a (of a - 1) → ⊥
          no (inl s) = q (omega (arith, s.1))
          no (inr s) = omega (arith, s.0)

          zero : {t : Bool} → Test (suc a < of a) (of a ≤ suc a) t → term of (like a b) a ≡ 0
          zero (pass k) = term_some of (like a b) a k ∙ zero_like a b a (of a - 1) no
          zero (fail k) = term_none of (like a b) a k

          other : Same a b a x → ⊥
          other (inl s) = q (sym s.1)
          other (inr s) = omega (arith, s.0)

          none : sum (like a b) m ≡ 0
          none =
              omega (
                arith,
                held_sum a x m o h (like a b) (like_turned a b),
                zero_like a b a x other,
                like_hit a b (without a x m) a (inl refl),
                held_free a x m o h a (inl refl),
              )

      go : (sum (hit a) m ≡ 0) ⊎ ((x : ℕ) × (1 ≤ sum (like a x) m)) → term of (like a b) a ≡ sum (like a b) m
      go (inl z) =
          term_none of (like a b) a (omega (arith, partner_none a m z))
          ∙ omega (arith, like_hit a b m a (inl refl))
      go (inr (x, h)) = found x h (partner_of a x m o h) (eq_test b x)

  -- a cell that is not below n has no partner
  high : (a : ℕ) → n ≤ a → of a ≡ 0
  high a l = go (partner_view a m)
    where
      go : (sum (hit a) m ≡ 0) ⊎ ((x : ℕ) × (1 ≤ sum (like a x) m)) → of a ≡ 0
      go (inl z) = partner_none a m z
      go (inr (x, h)) = absurd (omega (arith, (like_within n a x m p h).0))

  same_pairs : SamePairs (pairs_below of n) m
  same_pairs a b = go (lt_test a b) (lt_test b a)
    where
      up : (x y : ℕ) → x < y → sum (like x y) (pairs_below of n) ≡ sum (like x y) m
      up x y l = below_like of x y n l (high x) ∙ up_like x y l

      flipped : (k : List Pair) → sum (like a b) k ≡ sum (like b a) k
      flipped k = ap (λ (f : Points). sum f k) (fun_ext (λ x. fun_ext (λ y. like_flip a b x y)))

      no : a ≡ b → (x y : ℕ) → x ≢ y → like a b x y ≡ 0
      no e x y d = zero_like a b x y bad
        where
          bad : Same a b x y → ⊥
          bad (inl q) = d (omega (arith, q.0, q.1))
          bad (inr q) = d (omega (arith, q.0, q.1))

      go : {s t : Bool} → Test (a < b) (b ≤ a) s → Test (b < a) (a ≤ b) t
          → sum (like a b) (pairs_below of n) ≡ sum (like a b) m
      go (pass l) y = up a b l
      go (fail l) (pass k) = flipped (pairs_below of n) ∙ up b a k ∙ sym (flipped m)
      go (fail l) (fail k) =
          sum_none (like a b) (no (omega arith)) (pairs_below of n)
          (each_map (λ x y q. omega (arith, q.1)) (pairs_below of n) (below_each of n))
          ∙ sym (sum_none (like a b) (no (omega arith)) m (each_map (λ x y q. q.2) m p))

  pub pairs_filed : pairs_below (λ c. partner c m) n ≡ filed m
  pairs_filed =
      in_order_same (pairs_below of n) (filed m) (below_in_order of n)
      (filed_in_order m (each_map (λ a b q. q.2) m p) o)
      (λ a b. same_pairs a b ∙ sym (filed_sum (like a b) (like_turned a b) m))

-- the records that the words of the table make are those of the pairs
records_filed : {n : ℕ} {w1 w2 : List ℕ} {o : Origins} {m : List Pair} → TableThere n w1 w2 o m → (k : ℕ) → k ≤ n
    → map (record_at w2) (pairs_below (λ c. partner c m) k) ≡ map (word_of_origin o) (pairs_below (λ c. partner c m) k)
records_filed t zero l = refl
records_filed {n} {w1} {w2} {o} {m} t (suc c) l =
    map-append (record_at w2) (pairs_below of c) (pair_at of c)
    ∙ ap₂ (λ (x y : List ℕ). x ++ y) (records_filed t c (omega arith)) (one (lt_test (suc c) (of c)))
    ∙ sym (map-append (word_of_origin o) (pairs_below of c) (pair_at of c))
  where
    of : ℕ → ℕ
    of d = partner d m

    one : {s : Bool} → Test (suc c < of c) (of c ≤ suc c) s
        → map (record_at w2) (cond s ((c, of c - 1) ∷ []) []) ≡ map (word_of_origin o) (cond s ((c, of c - 1) ∷ []) [])
    one (pass k) =
        ap (λ (x : ℕ). x ∷ [])
        (tag_record w2 o m t.mates c (omega (arith, t.cells)) t.once t.cells t.within (omega arith))
    one (fail k) = refl

-- ---- the pairs read so far

-- The partner in the table's word for the cell c.
abbrev pub mate_in : List ℕ → ℕ → ℕ
mate_in w2 c = get_or w2 (at_table + c) 0 % partner_field

-- The pairs of the cells below c stand as r words at the start of the first buffer, and their records behind them.
pub record Reading (n : ℕ) (w2 w1 : List ℕ) (c r : ℕ) : Type 0 where
  pub at : c ≤ n
  pub fewer : r ≤ c
  pub count : r ≡ length (pairs_below (mate_in w2) c)
  pub pairs : take r w1 ≡ map pair_word (pairs_below (mate_in w2) c)
  pub records : take r (drop at_origins w1) ≡ map (record_at w2) (pairs_below (mate_in w2) c)

pub read_start : (n : ℕ) (w2 w1 : List ℕ) → Reading n w2 w1 0 0
read_start n w2 w1 =
    record { at = omega arith; fewer = omega arith; count = refl; pairs = refl; records = refl }

pub table_word : {n : ℕ} {w1 w2 : List ℕ} {o : Origins} {m : List Pair} → TableThere n w1 w2 o m → (c : ℕ) → c < n
    → (mate_in w2 c ≤ 1024) × (get_or w2 (at_table + c) 0 < partner_field * 16384)
table_word {n} {w1} {w2} {o} {m} t c l =
    let lc : c < 1024 = omega (arith, t.cells) in (
      omega (
        arith,
        t.cells,
        tag_partner w2 o m t.mates c lc t.once t.cells t.within,
        partner_most n c m t.within t.once,
      ),
      tag_small w2 o m t.mates c lc t.once t.cells t.within t.few,
    )

module _ {n c r : ℕ} {w2 w1 : List ℕ} (p : Reading n w2 w1 c r) where
  abbrev pairs : List Pair
  pairs = pairs_below (mate_in w2) c

  module _ (l : c < n) where
    pub read_pair : {x y : ℕ} → n ≤ 1024 → 8192 ≤ length w1 → suc c < mate_in w2 c
        → x ≡ c * 16384 + (mate_in w2 c - 1) * 16 → y ≡ record_in c (get_or w2 (at_table + c) 0)
        → Reading n w2 (set (set w1 r x) (at_origins + r) y) (c + 1) (r + 1)
    unfolding packed
    read_pair {x} {y} le room k e f =
        let here : List Pair = (c, mate_in w2 c - 1) ∷ [] in
        let one : pair_at (mate_in w2) c ≡ here = rw (lt-ltb (suc c) (mate_in w2 c) k) in
        let word : x ≡ pair_word (c, mate_in w2 c - 1) = omega arith in
        let v : List ℕ = set w1 r x in
        let words : take (suc r) (set v (at_origins + r) y) ≡ map pair_word (pairs ++ here) =
        take-set-le (suc r) v (at_origins + r) y (omega arith)
        ∙ take-suc-set w1 r x (omega (arith, p.fewer))
        ∙ ap₂ (λ (s : List ℕ) (z : ℕ). s ++ z ∷ []) p.pairs word
        ∙ sym (map-append pair_word pairs here) in
        let behind : drop at_origins (set v (at_origins + r) y) ≡ set (drop at_origins w1) r y =
        drop-set-add at_origins v r y
        ∙ ap (λ (s : List ℕ). set s r y) (drop-set-lt at_origins w1 r x (omega (arith, p.fewer))) in
        let records : take (suc r) (drop at_origins (set v (at_origins + r) y)) ≡ map (record_at w2) (pairs ++ here) =
        ap (take (suc r)) behind
        ∙ take-suc-set (drop at_origins w1) r y (omega (arith, p.fewer, length-drop at_origins w1))
        ∙ ap₂ (λ (s : List ℕ) (z : ℕ). s ++ z ∷ []) p.records f
        ∙ sym (map-append (record_at w2) pairs here) in
        record {
          at = omega arith;
          fewer = omega (arith, p.fewer);
          count = rw (add-one r, add-one c, one) (omega (arith, p.count, length-append pairs here));
          pairs = rw (add-one r, add-one c, one) words;
          records = rw (add-one r, add-one c, one) records;
        }

    pub read_none : mate_in w2 c ≤ suc c → Reading n w2 w1 (c + 1) r
    read_none k =
        let none : pair_at (mate_in w2) c ≡ [] = rw (le-ltb (suc c) (mate_in w2 c) k) in
        record {
          at = omega arith;
          fewer = omega (arith, p.fewer);
          count = rw (add-one, none, append-nil) p.count;
          pairs = rw (add-one, none, append-nil) p.pairs;
          records = rw (add-one, none, append-nil) p.records;
        }

  pub read_end : n ≤ c → {w1₀ : List ℕ} {o : Origins} {m : List Pair} → TableThere n w1₀ w2 o m → Listed o m w1 r
  read_end l {w1₀} {o} {m} t =
      let q : c ≡ n = omega (arith, p.at) in
      let mates : pairs_below (mate_in w2) c ≡ pairs_below (λ d. partner d m) n =
      rw q (pairs_agree (mate_in w2) (λ d. partner d m) n
      (λ d k. tag_partner w2 o m t.mates d (omega (arith, t.cells)) t.once t.cells t.within)) in
      let all : pairs_below (mate_in w2) c ≡ filed m = mates ∙ pairs_filed n m t.within t.once in
      let count : r ≡ length (filed m) = p.count ∙ ap length all in
      record {
        most = omega (arith, count, filed_length m, pairing_half n m t.within t.once, t.cells);
        count = count;
        pairs = p.pairs ∙ ap (map pair_word) all;
        origins = p.records ∙ ap (map (record_at w2)) mates ∙ records_filed t n (omega arith)
            ∙ ap (map (word_of_origin o)) (pairs_filed n m t.within t.once);
      }
