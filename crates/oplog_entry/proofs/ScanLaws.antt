-- The entries of one slot more.
use Rattle.std.proofs.Common.{◌≡◌, ℕ, zero, suc, ◌+◌, List, [], ◌∷◌, ◌++◌, Some, None, Option, arith, ap, sym, ◌∙◌, add-one, add-zero, zero-add, append-nil}
use Rattle.std.specs.List.{filter_map, cons_option, range_with_len}
use Rattle.std.proofs.lemmas.List.Elements.{filter_map-append}
use Rattle.std.specs.Prelude.{option_map}
use Rattle.pm_lines.specs.pm_model.Parts.{Part}
use Rattle.layout_model.specs.declared.lines.Draft.{Draft}
use Rattle.layout_model.specs.Entries.{decode_entry}
use Rattle.oplog_entry.specs.Scans.{bytes_in, entry_in}

range_by_count : (a n : ℕ) → range_with_len a (suc n) ≡ range_with_len a n ++ (a + n) ∷ []
range_by_count a zero = ap (λ m. m ∷ []) (sym (add-zero a))
range_by_count a (suc n) =
    ap (λ xs. a ∷ xs) (range_by_count (a + 1) n) ∙ ap (λ m. a ∷ (range_with_len (a + 1) n ++ m ∷ [])) last
  where
    last : a + 1 + n ≡ a + suc n
    last = omega arith

range_more : (n : ℕ) → range_with_len 0 (n + 1) ≡ range_with_len 0 n ++ n ∷ []
range_more n = ap (range_with_len 0) (add-one n) ∙ range_by_count 0 n ∙ ap (λ m. range_with_len 0 n ++ m ∷ []) (zero-add n)

entries_more : (lines : List Part) (base n : ℕ) (o : Option Draft) → decode_entry (bytes_in lines n) (base + n) ≡ o → filter_map (entry_in lines base) (range_with_len 0 (n + 1)) ≡ filter_map (entry_in lines base) (range_with_len 0 n) ++ cons_option (option_map (λ d. (n, d)) o) []
entries_more lines base n o is =
    ap (filter_map (entry_in lines base)) (range_more n)
    ∙ filter_map-append (entry_in lines base) (range_with_len 0 n) (n ∷ [])
    ∙ ap (λ (x : Option Draft). filter_map (entry_in lines base) (range_with_len 0 n) ++ cons_option (option_map (λ d. (n, d)) x) []) is

-- a slot whose line is no entry
pub entries_skip : (lines : List Part) (base n : ℕ) → decode_entry (bytes_in lines n) (base + n) ≡ None → filter_map (entry_in lines base) (range_with_len 0 (n + 1)) ≡ filter_map (entry_in lines base) (range_with_len 0 n)
entries_skip lines base n none = entries_more lines base n None none ∙ append-nil (filter_map (entry_in lines base) (range_with_len 0 n))

-- a slot with an entry
pub entries_take : (lines : List Part) (base n : ℕ) (d : Draft) → decode_entry (bytes_in lines n) (base + n) ≡ Some d → filter_map (entry_in lines base) (range_with_len 0 (n + 1)) ≡ filter_map (entry_in lines base) (range_with_len 0 n) ++ (n, d) ∷ []
entries_take lines base n d found = entries_more lines base n (Some d) found
