-- The best of some pairs is a heaviest pairing of them. In order: the recurrences; what becomes of the first pair
-- (`choice`); the points, pairs and cells of the best; no pairing of the pairs has more points, whatever the order of
-- its pairs (`best_most`); with more cells kept free there are no more points (`h_less`). Assumes nothing.
use mathlib.Core.Path.{◌≡◌, refl, sym}
use mathlib.Core.Logic.{◌⊎◌, inl, inr, ◌≢◌}
use mathlib.Core.Bool.{Bool, true, false, cond}
use mathlib.Core.List.{List, [], ◌∷◌}
use Prim.Native.Nat.{ℕ, ◌+◌, ◌*◌, ◌≤◌, ◌<◌, max}
use native.Mathlib.Omega.{arith}
use Rattle.matching.specs.Lists.{mem}
use Rattle.matching.specs.Pairs.{Pair, Points, ι, sum, Each, hit, like, without}
use Rattle.matching.specs.Pairing.{Once}
use Rattle.matching.specs.Best.{barred, H, pays, best}
use Rattle.matching.specs.Ties.{Within}
use Rattle.matching.proofs.Tests.{Test, pass, fail, is_test, eq_test, lt_test, not_test, map_test, fails}
use Rattle.matching.proofs.Members.{Meets, Away, meets_test, mem_on, mem_head, mem_apart, mem_more}
use Rattle.matching.proofs.Sums.{Turned, no_in, times_one, times_none, sum_none, sum_apart, hit_none, like_hit}
use Rattle.matching.proofs.Sums.{like_once, once_cons, without_once, without_none, without_in}

-- ---- the recurrences

-- What must stay free once a pair is taken: both its cells, and the cells off.
abbrev pub both : Pair → List ℕ → List ℕ
both e off = e.0 ∷ e.1 ∷ off

-- The points of a heaviest pairing that holds the pair e, and else pairs of es.
abbrev pub taking : Points → List ℕ → Pair → List Pair → ℕ
taking w off e es = w e.0 e.1 + H w (both e off) es

pub h_nil : (w : Points) (off : List ℕ) → H w off [] ≡ 0
unfolding H
h_nil w off = refl

pub h_cons : (w : Points) (off : List ℕ) (e : Pair) (es : List Pair)
    → H w off (e ∷ es) ≡ cond (barred off e) (H w off es) (max (H w off es) (taking w off e es))
unfolding H
h_cons w off e es = refl

pub best_nil : (t : Bool) (w : Points) (off : List ℕ) → best t w off [] ≡ []
unfolding best
best_nil t w off = refl

pub best_cons : (t : Bool) (w : Points) (off : List ℕ) (e : Pair) (es : List Pair)
    → best t w off (e ∷ es)
    ≡ cond (barred off e) (best t w off es)
    (cond (pays t (H w off es) (taking w off e es)) (e ∷ best t w (both e off) es) (best t w off es))
unfolding best
best_cons t w off e es = refl

-- ---- the first pair

-- A pair pays where it brings more, or as much and the tie is true.
pub pays_test : (t : Bool) (k l : ℕ) → Test (k < l + ι t) (l + ι t ≤ k) (pays t k l)
pays_test false k l = map_test (λ h. omega arith) (λ h. omega arith) (lt_test k l)
pays_test true k l = map_test (λ h. omega arith) (λ h. omega arith) (not_test (lt_test l k))

-- The best and its points, by what becomes of the first pair.
pub data Choice (t : Bool) (w : Points) (off : List ℕ) (e : Pair) (es : List Pair) : List Pair → ℕ → Type 0 where
  bars : Meets off e.0 e.1 → Choice t w off e es (best t w off es) (H w off es)
  leaves : Away off e.0 e.1 → taking w off e es + ι t ≤ H w off es
      → Choice t w off e es (best t w off es) (H w off es)
  takes : Away off e.0 e.1 → H w off es < taking w off e es + ι t
      → Choice t w off e es (e ∷ best t w (both e off) es) (taking w off e es)

pub choice : (t : Bool) (w : Points) (off : List ℕ) (e : Pair) (es : List Pair)
    → Choice t w off e es (best t w off (e ∷ es)) (H w off (e ∷ es))
choice t w off e es = rw (best_cons t w off e es, h_cons w off e es) (go (meets_test off e.0 e.1) (pays_test t k l))
  where
    k : ℕ
    k = H w off es

    l : ℕ
    l = taking w off e es

    out : List Pair
    out = best t w off es

    most : (s : Bool) → ι s ≤ 1
    most true = omega arith
    most false = omega arith

    go : {b p : Bool} → Test (Meets off e.0 e.1) (Away off e.0 e.1) b → Test (k < l + ι t) (l + ι t ≤ k) p
        → Choice t w off e es (cond b out (cond p (e ∷ best t w (both e off) es) out)) (cond b k (max k l))
    go (pass b) y = bars b
    go (fail c) (pass h) = let z : max k l ≡ l = omega (arith, most t) in rw z (takes c h)
    go (fail c) (fail h) = let z : max k l ≡ k = omega arith in rw z (leaves c h)

-- ---- the points, the pairs and the cells of the best

pub best_h : (t : Bool) (w : Points) (off : List ℕ) (es : List Pair) → sum w (best t w off es) ≡ H w off es
best_h t w off [] = rw (best_nil t w off, h_nil w off)
best_h t w off (e ∷ es) = go (choice t w off e es) (best_h t w off es) (best_h t w (both e off) es)
  where
    go : {m : List Pair} {h : ℕ} → Choice t w off e es m h → sum w (best t w off es) ≡ H w off es
        → sum w (best t w (both e off) es) ≡ H w (both e off) es → sum w m ≡ h
    go (bars b) i j = i
    go (leaves c h) i j = i
    go (takes c h) i j = omega arith

-- What follows pair by pair, each left out, or taken where it is away from the cells kept free, holds of the best.
best_by : (Q : List ℕ → List Pair → List Pair → Type 0) → ((off : List ℕ) → Q off [] [])
    → ((off : List ℕ) (e : Pair) (es m : List Pair) → Q off es m → Q off (e ∷ es) m)
    → ((off : List ℕ) (e : Pair) (es m : List Pair) → Away off e.0 e.1 → Q (both e off) es m
    → Q off (e ∷ es) (e ∷ m))
    → (t : Bool) (w : Points) (off : List ℕ) (es : List Pair) → Q off es (best t w off es)
best_by Q nil out take t w off [] = rw best_nil (nil off)
best_by Q nil out take t w off (e ∷ es) =
    go (choice t w off e es) (best_by Q nil out take t w off es) (best_by Q nil out take t w (both e off) es)
  where
    go : {m : List Pair} {h : ℕ} → Choice t w off e es m h → Q off es (best t w off es)
        → Q (both e off) es (best t w (both e off) es) → Q off (e ∷ es) m
    go (bars b) i j = out off e es (best t w off es) i
    go (leaves c h) i j = out off e es (best t w off es) i
    go (takes c h) i j = take off e es (best t w (both e off) es) c j

-- What holds of each pair holds of each of the best.
pub best_each : (P : ℕ → ℕ → Type 0) (t : Bool) (w : Points) (off : List ℕ) (es : List Pair)
    → Each P es → Each P (best t w off es)
best_each P =
    best_by (λ off es m. Each P es → Each P m) (λ off p. tt) (λ off e es m i p. i p.1)
    (λ off e es m c i p. (p.0, i p.1))

-- The cells of a pair must stay free once it is taken, as those before.
in_left : (e : Pair) (off : List ℕ) → mem e.0 (both e off) ≡ true
in_left e off = mem_head e.0 e.0 (e.1 ∷ off) refl

in_right : (e : Pair) (off : List ℕ) → mem e.1 (both e off) ≡ true
in_right e off = mem_on e.1 e.0 (e.1 ∷ off) (mem_head e.1 e.1 off refl)

in_off : (e : Pair) (off : List ℕ) (c : ℕ) → mem c off ≡ true → mem c (both e off) ≡ true
in_off e off c h = mem_on c e.0 (e.1 ∷ off) (mem_on c e.1 off h)

both_all : (P : ℕ → Type 0) (e : Pair) (off : List ℕ) → P e.0 → P e.1 → ((c : ℕ) → mem c off ≡ true → P c)
    → (c : ℕ) → mem c (both e off) ≡ true → P c
both_all P e off p q f = mem_more P e.0 (e.1 ∷ off) p (mem_more P e.1 off q f)

module _ (t : Bool) (w : Points) (off : List ℕ) (es : List Pair) where
  best_cells : ((c : ℕ) → mem c off ≡ true → sum (hit c) (best t w off es) ≡ 0)
      × (Each (λ a b. a ≢ b) es → Once (best t w off es))
  best_cells =
      best_by Q (λ off. (λ c h. refl, λ p c. omega arith)) (λ off e es m i. (i.0, λ p. i.1 p.1)) take t w off es
    where
      Q : List ℕ → List Pair → List Pair → Type 0
      Q off es m = ((c : ℕ) → mem c off ≡ true → sum (hit c) m ≡ 0) × (Each (λ a b. a ≢ b) es → Once m)

      take : (off : List ℕ) (e : Pair) (es m : List Pair) → Away off e.0 e.1 → Q (both e off) es m
          → Q off (e ∷ es) (e ∷ m)
      take off e es m n i = (λ c h. omega (arith, i.0 c (in_off e off c h), past c h), once)
        where
          past : (c : ℕ) → mem c off ≡ true → hit c e.0 e.1 ≡ 0
          past c h =
              hit_none c e.0 e.1 (λ q. mem_apart c e.0 off h n.0 (sym q))
              (λ q. mem_apart c e.1 off h n.1 (sym q))

          once : Each (λ a b. a ≢ b) (e ∷ es) → Once (e ∷ m)
          once p =
              once_cons e.0 e.1 m p.0 (i.0 e.0 (in_left e off)) (i.0 e.1 (in_right e off))
              (i.1 p.1)

  -- A cell that must stay free is not hit; of pairs of different cells, no cell stands twice.
  pub best_off : (c : ℕ) → mem c off ≡ true → sum (hit c) (best t w off es) ≡ 0
  best_off = best_cells.0

  pub best_once : Each (λ a b. a ≢ b) es → Once (best t w off es)
  best_once = best_cells.1

-- ---- no pairing of the pairs has more points

module _ (w : Points) (off : List ℕ) (e : Pair) (es : List Pair) where
  h_out : H w off es ≤ H w off (e ∷ es)
  h_out = go (choice false w off e es)
    where
      go : {m : List Pair} {h : ℕ} → Choice false w off e es m h → H w off es ≤ h
      go (bars b) = omega arith
      go (leaves c h) = omega arith
      go (takes c h) = omega arith

  h_in : Away off e.0 e.1 → taking w off e es ≤ H w off (e ∷ es)
  h_in c = rw (h_cons w off e es, c.0, c.1) (omega arith)

-- Such a pairing of e and es without its pair e.
module _ (off : List ℕ) (e : Pair) (es m : List Pair) (p : Within off (e ∷ es) m) where
  abbrev held : ℕ
  held = sum (like e.0 e.1) m

  abbrev rest : List Pair
  rest = without e.0 e.1 m

  pub within_out : Within off es rest
  within_out = record {
    among = without_in e.0 e.1 m es p.among;
    once = without_once e.0 e.1 m p.once;
    unpaired = λ c h. without_none e.0 e.1 m c (p.unpaired c h);
  }

  pub within_in : 1 ≤ held → Within (both e off) es rest
  within_in h = record {
    among = within_out.among;
    once = within_out.once;
    unpaired = both_all (λ c. sum (hit c) rest ≡ 0) e off (at e.0 (inl refl)) (at e.1 (inr refl))
        within_out.unpaired;
  }
    where
      at : (c : ℕ) → (e.0 ≡ c) ⊎ (e.1 ≡ c) → sum (hit c) rest ≡ 0
      at c q = omega (arith, p.once c, like_hit e.0 e.1 m c q)

  -- a barred pair is not held
  pub within_barred : Meets off e.0 e.1 → held ≡ 0
  within_barred (inl h) = omega (arith, p.unpaired e.0 h, like_hit e.0 e.1 m e.0 (inl refl))
  within_barred (inr h) = omega (arith, p.unpaired e.1 h, like_hit e.0 e.1 m e.1 (inr refl))

pub best_most : (w : Points) → Turned w → (es : List Pair) (off : List ℕ) (m : List Pair) → Within off es m
    → sum w m ≤ H w off es
best_most w g [] off m p = omega (arith, h_nil w off, sum_none w (λ a b. no_in a b) m p.among)
best_most w g (e ∷ es) off m p = go (eq_test k 0) (meets_test off e.0 e.1) (λ on q. best_most w g es on rest q)
  where
    k : ℕ
    k = sum (like e.0 e.1) m

    rest : List Pair
    rest = without e.0 e.1 m

    apart : sum w m ≡ w e.0 e.1 * k + sum w rest
    apart = sum_apart w g e.0 e.1 m

    go : {s t : Bool} → Test (k ≡ 0) (k ≢ 0) s → Test (Meets off e.0 e.1) (Away off e.0 e.1) t
        → ((on : List ℕ) → Within on es rest → sum w rest ≤ H w on es) → sum w m ≤ H w off (e ∷ es)
    go (pass z) y i =
        omega (arith, apart, times_none (w e.0 e.1) k z, h_out w off e es, i off (within_out off e es m p))
    go (fail n) (pass b) i = absurd (n (within_barred off e es m p b))
    go (fail n) (fail c) i =
        let one : k ≡ 1 = omega (arith, like_once e.0 e.1 m p.once) in
        omega (
          arith,
          apart,
          times_one (w e.0 e.1) k one,
          h_in w off e es c,
          i (both e off) (within_in off e es m p (omega arith)),
        )

-- ---- more cells kept free, no more points

pub h_less : (w : Points) (es : List Pair) (off on : List ℕ) → ((c : ℕ) → mem c off ≡ true → mem c on ≡ true)
    → H w on es ≤ H w off es
h_less w [] off on f = omega (arith, h_nil w off, h_nil w on)
h_less w (e ∷ es) off on f =
    go (choice false w on e es) (h_less w es off on f)
    (h_less w es (both e off) (both e on)
    (both_all (λ c. mem c (both e on) ≡ true) e off (in_left e on) (in_right e on) (λ c h. in_off e on c (f c h))))
  where
    clear : (x : ℕ) → mem x on ≡ false → mem x off ≡ false
    clear x n = fails (is_test (mem x off)) (λ h. mem_apart x x on (f x h) n refl)

    go : {m : List Pair} {h : ℕ} → Choice false w on e es m h → H w on es ≤ H w off es
        → H w (both e on) es ≤ H w (both e off) es → h ≤ H w off (e ∷ es)
    go (bars b) i j = omega (arith, h_out w off e es)
    go (leaves c q) i j = omega (arith, h_out w off e es)
    go (takes c q) i j = omega (arith, h_in w off e es (clear e.0 c.0, clear e.1 c.1))

pub h_mono : (w : Points) (es : List Pair) (x : ℕ) (off : List ℕ) → H w (x ∷ off) es ≤ H w off es
h_mono w es x off = h_less w es off (x ∷ off) (λ c h. mem_on c x off h)
