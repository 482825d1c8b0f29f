-- Tables that are filled line by line.
use Rattle.std.proofs.Common.{◌≡◌, ℕ, ◌+◌, ◌<◌, ◌≤◌, length, true, replicate, Some, None, refl, sym, ◌∙◌, ap, arith, inl, inr}
use Rattle.std.specs.Prelude.{slice_set}
use Rattle.std.proofs.lemmas.Bool.{cases_eq, cases_lt, both_ways}
use Rattle.std.proofs.lemmas.List.{ext_get_or, get_or_past, get_or-replicate, length-replicate, get_or-set_same, get_or-set_other, length-set}
use Rattle.std.proofs.lemmas.List.FromFn.{get_or-map-range_with_len, length-map-range_with_len}
use Rattle.k_inodes.specs.image_layout.pm_model.Words.{Words}
use Rattle.k_inodes.specs.image_layout.layout_model.Places.{Geometry}
use Rattle.k_inodes.specs.layout_model.Lines.{NameRow}
use Rattle.k_inodes.specs.layout_model.Names.{Rows, row, is_entry}
use Rattle.k_inodes.specs.layout_model.TableLaws.{is_entry-own}
use Rattle.k_inodes.specs.layout_model.Tables.{IsKeyed}
use Rattle.map_chain.specs.image_model.Volume.{name_at, row_of, volume}

-- the first n rows are those of the table, and the others are free
pub record AreRead (rows all : Rows) (n : ℕ) : Type 0 where
  pub count : length rows ≡ length all
  pub before : (j : ℕ) → j < n → row rows j ≡ row all j
  pub behind : (j : ℕ) → n ≤ j → row rows j ≡ None

pub row-volume : (g : Geometry) (f : Words) (k : ℕ) → k < g.names → row (volume g f).names k ≡ row_of (name_at g f k)
unfolding volume
row-volume g f k within = get_or-map-range_with_len (λ k. row_of (name_at g f k)) 0 g.names k k None within (omega arith)

pub count-volume : (g : Geometry) (f : Words) → length (volume g f).names ≡ g.names
unfolding volume
count-volume g f = length-map-range_with_len (λ k. row_of (name_at g f k)) 0 g.names

row-blank : (n j : ℕ) → row (replicate n None) j ≡ None
row-blank n j = elim (cases_lt j n) [
  | inl below ↦ get_or-replicate n j None None below
  | inr past ↦ get_or_past (replicate n None) j None (rw length-replicate past)
]

pub read-none : (rows all : Rows) (n : ℕ) → rows ≡ replicate n None → length all ≡ n → AreRead rows all 0
read-none rows all n is count = record {
  count = ap (λ (l : Rows). length l) is ∙ length-replicate n None ∙ sym count;
  before = λ j below. absurd (omega arith);
  behind = λ j from. ap (λ (l : Rows). row l j) is ∙ row-blank n j;
}

-- one row more, which is in use, or free
pub read-name : (rows all new : Rows) (n : ℕ) (r : NameRow) → AreRead rows all n → n < length all → Some r ≡ row all n
    → new ≡ slice_set rows n (Some r) → AreRead new all (n + 1)
read-name rows all new n r read within is set = record {
  count = ap (λ (l : Rows). length l) set ∙ length-set rows n (Some r) ∙ read.count;
  before = λ j below. ap (λ (l : Rows). row l j) set ∙ elim (cases_eq j n) [
    | inl here ↦
        ap (λ k. row (slice_set rows n (Some r)) k) here
        ∙ get_or-set_same rows n (Some r) None (omega (arith, read.count)) ∙ is ∙ sym (ap (λ k. row all k) here)
    | inr other ↦ get_or-set_other rows n j (Some r) None other ∙ read.before j (omega arith)
  ];
  behind = λ j from.
      ap (λ (l : Rows). row l j) set ∙ get_or-set_other rows n j (Some r) None (λ e. absurd (omega arith))
      ∙ read.behind j (omega arith);
}

pub read-free : (rows all : Rows) (n : ℕ) → AreRead rows all n → None ≡ row all n → AreRead rows all (n + 1)
read-free rows all n read free = record {
  count = read.count;
  before = λ j below. elim (cases_eq j n) [
    | inl here ↦ read.behind j (omega arith) ∙ free ∙ sym (ap (λ k. row all k) here)
    | inr other ↦ read.before j (omega arith)
  ];
  behind = λ j from. read.behind j (omega arith);
}

-- all rows are those of the table
pub read-all : (rows all : Rows) (n : ℕ) → AreRead rows all n → length all ≤ n → rows ≡ all
read-all rows all n read every =
    ext_get_or None rows all read.count (λ i within. read.before i (omega (arith, read.count)))

-- a row of the table that was not reached yet has a name that no row has that was
pub name-new : (rows all : Rows) (n : ℕ) (r : NameRow) → AreRead rows all n → IsKeyed all → Some r ≡ row all n
    → (k : ℕ) → is_entry r.parent r.name (row rows k) ≡ true → k ≡ n
name-new rows all n r read keyed is k entry = elim (cases_lt k n) [
  | inl before ↦
      keyed.one_line r.parent r.name k n (ap (is_entry r.parent r.name) (sym (read.before k before)) ∙ entry)
      (ap (is_entry r.parent r.name) (sym is) ∙ own r)
  | inr behind ↦ absurd (both_ways (is_entry r.parent r.name (row rows k)) (ap (is_entry r.parent r.name) (read.behind k behind)) entry)
]
  where
    own : (s : NameRow) → is_entry s.parent s.name (Some s) ≡ true
    own s = is_entry-own (Some s) s refl
