-- Worked rows: entries in the log of a small image that no recovery can carry out, and one of a later lap.
use Rattle.std.specs.Prelude.{◌≡◌, ℕ, ◌+◌, ◌<◌, List, [], ◌∷◌, All, true, false, Some, refl}
use Rattle.std.proofs.Common.{arith, inl, ap, sym, ◌∙◌, subst}
use Rattle.volume_laws.specs.pm_model.Words.{Words, word_at, line_bytes, with_line}
use Rattle.volume_laws.specs.layout_model.Places.{Geometry, log_line}
use Rattle.volume_laws.specs.layout_model.declared.lines.Draft.{Draft}
use Rattle.volume_laws.specs.layout_model.declared.lines.Kind.TheVariants.{File}
use Rattle.volume_laws.specs.layout_model.Entries.{entry_body, encode_entry, fnv_1a_from, decode_entry}
use Rattle.volume_laws.specs.layout_model.EntryLaws.{decode_entry-encode_entry}
use Rattle.volume_laws.specs.layout_model.Fresh.{fresh}
use Rattle.volume_laws.specs.layout_model.Names.{ends_at_root}
use Rattle.volume_laws.specs.image_model.Broken.{HoldAll, log_rules, Breaks}
use Rattle.volume_laws.specs.image_model.Live.{entry_in, live_entries}
use Rattle.volume_laws.specs.image_model.Reading.{Reads}
use Rattle.volume_laws.specs.image_model.Rules.{HasStagingBlocks, CanRecover}
use Rattle.volume_laws.specs.image_model.Volume.{Volume}
use Rattle.volume_laws.specs.LineWords.{with_line-out, line_bytes-set, line_bytes-other}
use Rattle.image_laws.specs.BrokenLaws.{BreaksFirst-behind}
use Rattle.image_laws.specs.FreshLaws.{same-at}
use Rattle.image_laws.specs.KeptRules.{kept_rules}
use Rattle.image_laws.specs.ViewLaws.{AgreeButLog, reads-but_log}
use Rattle.image_laws.specs.Damage.{small, small-in_range}
use Rattle.image_laws.specs.LineDamage.{IsLaidOn, laid-line, laid-view, laid-break}
use Rattle.image_laws.specs.LogDamage.{entry-bytes, with_entry, later_lap}
use Rattle.image_laws.specs.TreeImages.{with_nodes, with_names, names_set, nodes_set, tree_image, tree_volume, AreLines-test, tree-reads, tree-laid}
use Rattle.image_laws.specs.TreeRows.{named, tree_kept}

-- a log line set in words that read as a volume
pub logged-reads : (g : Geometry) (f : Words) (v : Volume) (slot : ℕ) (bytes : List ℕ) → slot < g.log → IsLaidOn g f → Reads g f v → Reads g (with_line (log_line g slot) bytes f) v
logged-reads g f v slot bytes within laid r =
    let h = with_line (log_line g slot) bytes f in
    let behind : IsLaidOn g h = laid-line g f (log_line g slot) bytes laid (omega arith) in
    let agree : AgreeButLog g f h = record { words = λ w apart. with_line-out (log_line g slot) bytes f w (apart slot within) } in
    subst (λ j. Reads g j v) (laid-view g h behind) (reads-but_log g f h v agree (subst (λ j. Reads g j v) (sym (laid-view g f laid)) r))

-- a file `a`, inode 5
one_file : Volume
one_file = tree_volume small (File ∷ []) (named 0 5 97 ∷ [])

a_file : Words
a_file = tree_image small (File ∷ []) (named 0 5 97 ∷ [])

a_file-laid : IsLaidOn small a_file
unfolding a_file
a_file-laid = tree-laid small (File ∷ []) (named 0 5 97 ∷ [])

a_file-reads : Reads small a_file one_file
unfolding a_file one_file
a_file-reads = tree-reads small (File ∷ []) (named 0 5 97 ∷ []) small-in_range (omega arith) (omega arith) (AreLines-test (named 0 5 97 ∷ []) refl)

a_file-kept : HoldAll (kept_rules one_file)
unfolding one_file names_set nodes_set ends_at_root
a_file-kept = tree_kept one_file (record { kinds = refl; named = refl; chains = λ ino. same-at [] 16 ino; maps = λ ino. same-at [] 16 ino }) refl refl refl refl

-- an entry of that file, whose staging file has no blocks
unfoldable pub an_entry : Draft
an_entry = record { count = 1; order = 1; ino = 5; generation = 1; file_block = 0; staging = 1; staging_block = 1; staging_generation = 0; size = 1 }

-- Rule 12: two entries of one file with one order.
unfoldable pub twice_one_order : Words
twice_one_order = with_line (log_line small 1) (encode_entry an_entry 2) (with_line (log_line small 0) (encode_entry an_entry 1) (tree_image small (File ∷ []) (named 0 5 97 ∷ [])))

entry_read : (f : Words) (slot : ℕ) → line_bytes f (log_line small slot) ≡ encode_entry an_entry (1 + slot) → entry_in one_file f slot ≡ Some an_entry
unfolding one_file names_set nodes_set an_entry
entry_read f slot line =
    ap (λ bytes. decode_entry bytes (1 + slot)) line
    ∙ decode_entry-encode_entry an_entry (1 + slot) (record { ino = omega arith; generation = omega arith; staging_generation = omega arith }) refl

recovery_breaks : (h : Words) → IsLaidOn small h → Reads small h one_file → ¬ CanRecover one_file h → Breaks 262144 h 12 0
recovery_breaks h laid r fails =
    laid-break small h one_file 12 0 small-in_range laid r
    (BreaksFirst-behind (kept_rules one_file) (log_rules one_file h) 12 0 a_file-kept
    (inl (refl, record { from = omega arith; within = omega arith; before = λ p from lower. absurd (omega arith); fails = fails })))

pub one_order_twice : Breaks 262144 twice_one_order 12 0
unfolding twice_one_order one_file a_file an_entry names_set nodes_set
one_order_twice =
    let first = with_line (log_line small 0) (encode_entry an_entry 1) a_file in
    let first_laid = laid-line small a_file (log_line small 0) (encode_entry an_entry 1) a_file-laid (omega arith) in
    recovery_breaks twice_one_order
    (laid-line small first (log_line small 1) (encode_entry an_entry 2) first_laid (omega arith))
    (logged-reads small first one_file 1 (encode_entry an_entry 2) (omega arith) first_laid
    (logged-reads small a_file one_file 0 (encode_entry an_entry 1) (omega arith) a_file-laid a_file-reads))
    (λ recovers.
    recovers.orders 0 1 an_entry an_entry (omega arith) (omega arith)
    (entry_read twice_one_order 0
    (line_bytes-other (log_line small 1) (log_line small 0) (encode_entry an_entry 2) first (λ e. omega arith) ∙ line_bytes-set (log_line small 0) (encode_entry an_entry 1) a_file (entry-bytes an_entry 1)))
    (entry_read twice_one_order 1 (line_bytes-set (log_line small 1) (encode_entry an_entry 2) first (entry-bytes an_entry 2)))
    refl refl refl refl)

-- and a live entry whose staging file has no such block
unfoldable pub without_its_block : Words
without_its_block = with_line (log_line small 0) (encode_entry an_entry 1) (tree_image small (File ∷ []) (named 0 5 97 ∷ []))

one_live : live_entries one_file without_its_block ≡ an_entry ∷ []
unfolding without_its_block one_file an_entry names_set nodes_set with_names with_nodes fresh line_bytes word_at encode_entry entry_body fnv_1a_from decode_entry
one_live = refl

no_block : HasStagingBlocks one_file an_entry → ⊥
unfolding one_file an_entry names_set nodes_set
no_block staged = let some : false ≡ true = staged 0 (omega arith) in cc

pub no_staging_block : Breaks 262144 without_its_block 12 0
unfolding without_its_block one_file a_file an_entry names_set nodes_set
no_staging_block =
    recovery_breaks without_its_block
    (laid-line small a_file (log_line small 0) (encode_entry an_entry 1) a_file-laid (omega arith))
    (logged-reads small a_file one_file 0 (encode_entry an_entry 1) (omega arith) a_file-laid a_file-reads)
    (λ recovers.
    let staged : All (HasStagingBlocks one_file) (an_entry ∷ []) = subst (All (HasStagingBlocks one_file)) one_live recovers.staged in
    no_block (staged 0 an_entry (omega arith)))

-- Rule 13: slot 0 has an entry of number 5, which is that of slot 0 in the lap to come.
pub seq_5_at_0 : Breaks 262144 (with_entry small 0 an_entry 5) 13 0
unfolding an_entry
seq_5_at_0 = later_lap small 0 an_entry 5 small-in_range (omega arith) (record { ino = omega arith; generation = omega arith; staging_generation = omega arith }) refl (omega arith) (omega arith)
