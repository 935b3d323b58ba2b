-- The records as the decoders find them, and the layout of a list, which nobody else looks into. In order: the fields
-- of an entry, a step and a pair by their numbers; the shape of a list; the points of an entry are below `points_top`;
-- the entries in view. Assumes nothing.
use Prim.Native.Nat.{ℕ, zero, suc, ◌+◌, ◌*◌, ◌-◌, ◌/◌, ◌%◌, ◌^◌, ◌≤◌, ◌<◌}
use mathlib.Core.Path.{◌≡◌, refl, sym, ap, ◌∙◌}
use mathlib.Core.List.{List, [], ◌∷◌, map}
use native.Mathlib.Omega.{arith}
use native.Mathlib.Nat.{div-one, one-mul, mod-eq_of_lt}
use lib.ListN.{get_or, drop, get_or-map}
use lib.Pow.{shr-shr, pow-lt}
use mathlib.Core.Bool.{Bool, true, false, cond, ◌||◌}
use lib.Dec.{eqb}
use borrow.Author.Tests.{eqb-true}
use Rattle.matching.specs.Lists.{All, mem}
use Rattle.matching.specs.Listed.{Entry as ListEntry}
use Rattle.cellfile.specs.Bytes.{number}
use Rattle.cellfile.specs.Fields.{fields, read_record, read_records, size}
use Rattle.cellfile.specs.Files.{Layout, store_list, raw_list, slip, pairing, start, file_length, kind_of, cells_of}
use Rattle.cellfile.specs.Files.{count_of, read_entries, as_entry, list_layout, entries_all, in_view}
use Rattle.cellfile.specs.Fits.{WholeBytes}
use Rattle.cellfile.specs.Reads.{entry_fields, EntryAt, EntryRead, WholeFile, place_of, points_top}
use Rattle.cellfile.specs.Shapes.{ShapeRead}
use Rattle.cellfile.specs.declared.decode.Entry.{Entry}
use Rattle.cellfile.specs.declared.records.Shape.{Shape}
use Rattle.cellfile.proofs.Walk.{rest_from, from_place, record_at_is}

-- ---- the fields by the record's number

-- one above so many bits
pub shifted : (k : ℕ) → k ≤ 8 → 1 * 2 ^ (8 * k - 20) % 18446744073709551616 ≡ 2 ^ (8 * k - 20)
shifted k l =
    ap (λ (x : ℕ). x % 18446744073709551616) (one-mul (2 ^ (8 * k - 20)))
    ∙ mod-eq_of_lt (pow-lt {i = 8 * k - 20} {j = 64} (omega arith))

-- two cells above so many bits of points
pub entry_fields_is : (k : ℕ) (s : List ℕ) {v : ℕ} → 3 ≤ k → k ≤ 8 → v ≡ number k s
    → (v / 2 ^ (8 * k - 20) / 1024 % 1024 ∷ v / 2 ^ (8 * k - 20) % 1024
    ∷ v % (1 * 2 ^ (8 * k - 20) % 18446744073709551616) ∷ []) ≡ read_record (entry_fields k) s
unfolding fields
entry_fields_is k s {v} g l e =
    let p = 8 * k - 20 in
    let z : p + 0 ≡ p = omega arith in
    let t : 10 + p ≡ p + 10 = omega arith in
    let whole : (10 + (10 + (p + 0))) / 8 ≡ k = omega arith in
    rw (whole, ← e, shifted k l, z, t, ← shr-shr v p 10, div-one v)

pub step_fields_are : (s : List ℕ) {v : ℕ} → v ≡ number 2 s
    → (v / 1024 % 64 ∷ v % 1024 ∷ []) ≡ read_record slip.entry s
unfolding fields
step_fields_are s {v} e = rw (← e, div-one v)

pub pair_fields_are : (s : List ℕ) {v : ℕ} → v ≡ number 3 s
    → (v / 16384 % 1024 ∷ v / 16 % 1024 ∷ v % 16 ∷ []) ≡ read_record pairing.entry s
unfolding fields
pair_fields_are s {v} e = rw (← e, div-one v)

-- ---- lists

-- a list of any kind has nothing between its header and its entries, and the same fields in an entry
layout_is : (s : List ℕ) → ((list_layout s).extra ≡ store_list.extra) × ((list_layout s).entry ≡ store_list.entry)
unfolding list_layout
layout_is s = go (eqb (kind_of s) raw_list.kind)
  where
    go : (t : Bool) → ((cond t raw_list store_list).extra ≡ store_list.extra)
        × ((cond t raw_list store_list).entry ≡ store_list.entry)
    go true = (refl, refl)
    go false = (refl, refl)

pub shape_is : (s : List ℕ) → ShapeRead s (record { start = 4; bytes = 5 })
shape_is s = record {
  start = rw (layout_is s).0;
  bytes = rw (layout_is s).1;
  fields = (layout_is s).1;
  start_fits = omega arith;
  least = omega arith;
  most = omega arith;
}

-- the bytes of so many entries
module _ (s : List ℕ) (r : Shape) (m : ℕ) (h : ShapeRead s r) where
  pub length_said : r.start + r.bytes * m ≡ file_length (list_layout s) (cells_of s) m
  length_said = rw (h.start, h.bytes)

-- its records are of whole bytes, and it is of its layout's kind
pub list_whole : (s : List ℕ) → WholeBytes ((list_layout s).extra (cells_of s)) × WholeBytes (list_layout s).entry
list_whole s = rw ((layout_is s).0, (layout_is s).1) (refl, refl)

pub layout_store : (s : List ℕ) → kind_of s ≡ store_list.kind → list_layout s ≡ store_list
unfolding list_layout
layout_store s k = rw k

pub layout_raw : (s : List ℕ) → kind_of s ≡ raw_list.kind → list_layout s ≡ raw_list
unfolding list_layout
layout_raw s k = rw k

pub store_kind : (s : List ℕ) → mem (kind_of s) (1 ∷ []) ≡ true → kind_of s ≡ store_list.kind
store_kind s e = sym (eqb-true 1 (kind_of s) (or_last (eqb 1 (kind_of s)) e))
  where
    or_last : (t : Bool) → (t || false) ≡ true → t ≡ true
    or_last true h = refl
    or_last false h = h

pub list_kind : (s : List ℕ) → mem (kind_of s) (1 ∷ []) ≡ true → kind_of s ≡ (list_layout s).kind
list_kind s e = let k = store_kind s e in k ∙ ap (λ (l : Layout). l.kind) (sym (layout_store s k))

-- all its entries
pub entries_are : (s : List ℕ) → entries_all s ≡ map as_entry (read_records store_list.entry (count_of s) (drop 4 s))
unfolding entries_all
entries_are s = rw ((layout_is s).0, (layout_is s).1)

-- the points of an entry
points_fit : (s t : List ℕ) → get_or (read_record (list_layout s).entry t) 2 0 < 1048576
unfolding fields
points_fit s t = rw (layout_is s).1 (omega arith)

-- an entry of a list with m of them
module _ (s : List ℕ) (r : Shape) {m : ℕ} (i : ℕ) (shaped : ShapeRead s r) (whole : WholeFile (list_layout s) s m)
    (below : i < m) where
  -- is that which is read there
  pub entry_is : (e : Entry) → EntryAt r.bytes (rest_from (r.start + r.bytes * i) s) e → EntryRead s i e
  unfolding entries_all
  entry_is e h = record {
    is = ap as_entry here ∙ sym (get_or-map as_entry (read_entries (list_layout s) s) i []);
    a_fits = h.a_fits;
    b_fits = h.b_fits;
    points_fit = rw (ap (λ rs. get_or rs 2 0) (read ∙ fields_are)) (points_fit s _);
  }
    where
      read : (e.a ∷ e.b ∷ e.points ∷ []) ≡ read_record (entry_fields r.bytes) (drop (r.start + r.bytes * i) s)
      read = h.is ∙ rw (from_place (r.start + r.bytes * i) s)

      fields_are : read_record (entry_fields r.bytes) (drop (r.start + r.bytes * i) s)
          ≡ read_record (list_layout s).entry (drop (place_of (list_layout s) s i) s)
      fields_are =
          let bytes : (10 + (10 + (8 * r.bytes - 20 + 0))) / 8 ≡ r.bytes = omega (arith, shaped.least) in
          rw (shaped.start, shaped.fields, bytes)

      here : (e.a ∷ e.b ∷ e.points ∷ []) ≡ get_or (read_entries (list_layout s) s) i []
      here = read ∙ fields_are ∙ sym (record_at_is (list_layout s) s i (omega (arith, whole.count, below)))

-- ---- the entries in view

pub view_all : (s : List ℕ) → in_view s ≡ entries_all s
unfolding in_view
view_all s = refl

entries_small : (s t : List ℕ) (m : ℕ)
    → All (λ (e : ListEntry). e.2 < points_top) (map as_entry (read_records (list_layout s).entry m t))
unfolding read_records
entries_small s t zero = tt
entries_small s t (suc m) = (points_fit s t, entries_small s (drop (size (list_layout s).entry) t) m)

pub view_small : (s : List ℕ) → All (λ (e : ListEntry). e.2 < points_top) (in_view s)
unfolding in_view entries_all
view_small s = entries_small s (drop (start (list_layout s) (cells_of s)) s) (count_of s)
