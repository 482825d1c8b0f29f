-- Rows of the rules of an image, of torn lines, of claims and of contents, worked out by hand.
use Rattle.std.proofs.Common.{◌≡◌, ◌+◌, ◌<◌, ℕ, [], ◌∷◌, refl, inl, inr, arith}
use Rattle.std.specs.Prelude.{List, map, replicate, ◌==◌, if◌then◌else◌, Some, None, Option, false}
use Rattle.std.proofs.lemmas.Bool.{both_ways}
use Rattle.layout_model.specs.pm_model.declared.Cell.{Cell}
use Rattle.layout_model.specs.pm_model.declared.Cell.TheVariants.{Single, Two}
use Rattle.layout_model.specs.pm_model.Words.{Words, word_at, line_bytes, with_line}
use Rattle.layout_model.specs.Places.{Geometry, inode_line, name_line, log_line}
use Rattle.layout_model.specs.declared.lines.Draft.{Draft}
use Rattle.layout_model.specs.declared.lines.Inode.{Inode}
use Rattle.layout_model.specs.declared.lines.Kind.TheVariants.{Directory, File, Staging}
use Rattle.layout_model.specs.Entries.{encode_entry, entry_body, fnv_1a_from, decode_entry}
use Rattle.layout_model.specs.Fresh.{blank, empty_inode}
use Rattle.layout_model.specs.Lines.{NameRow, encode_inode, encode_name, decode_inode, decode_name}
use Rattle.layout_model.specs.Names.{walk}
use Rattle.image_model.specs.Broken.{Rule, at_one, below, BreaksFirst, rules_of}
use Rattle.image_model.specs.Content.{Node, IsDirectory, HasBytes, node_of, found}
use Rattle.image_model.specs.Honest.{IsTorn}
use Rattle.image_model.specs.Live.{live_entries}
use Rattle.image_model.specs.LogRule.{HoldsClaims}
use Rattle.image_model.specs.Rules.{HasNumbers, IsKindAt}
use Rattle.image_model.specs.Chains.{blocks_from}
use Rattle.image_model.specs.Volume.{Volume, volume, free_inode}

-- Claims: no lines hold one whose number is past them.
a_draft : Draft
a_draft = record { count = 1; order = 1; ino = 6; generation = 1; file_block = 0; staging = 1; staging_block = 1; staging_generation = 1; size = 1 }

claim_past_the_lines : HoldsClaims 1 [] ((0, a_draft) ∷ []) (λ n. blank) → ⊥
claim_past_the_lines holds = let within : 0 < 0 = (holds.claimed 0 a_draft (0, omega arith, refl)).0 in omega arith

-- Torn lines. Each of the words of line 0 has two candidates.
all_stored : ℕ → Cell
all_stored i = Two i (100 + i)

all_old : IsTorn all_stored (λ i. i) 0 → ⊥
unfolding all_stored
all_old torn = torn.not_older (λ j below. refl)

all_new : IsTorn all_stored (λ i. 100 + i) 0 → ⊥
unfolding all_stored
all_new torn = torn.not_newer (λ j below. refl) (λ j below. refl)

one_new : IsTorn all_stored (λ i. if i == 3 then 103 else i) 0
unfolding all_stored
one_new =
    record {
      some = (0, omega arith, refl);
      not_older = λ older. let third : 103 ≡ 3 = older 3 (omega arith) in omega arith;
      not_newer = λ each newer. let first : 0 ≡ 100 = newer 0 (omega arith) in omega arith;
    }

-- Words 1 and 2 alone were stored.
two_stored : ℕ → Cell
two_stored i = if i == 1 then Two 0 7 else if i == 2 then Two 0 9 else Single 0

both_new : IsTorn two_stored (λ i. if i == 1 then 7 else if i == 2 then 9 else 0) 0
unfolding two_stored
both_new =
    record {
      some = (1, omega arith, refl);
      not_older = λ older. let first : 7 ≡ 0 = older 1 (omega arith) in omega arith;
      not_newer = λ each newer. both_ways false refl (each 0 (omega arith));
    }

one_of_two : IsTorn two_stored (λ i. if i == 2 then 9 else 0) 0
unfolding two_stored
one_of_two =
    record {
      some = (1, omega arith, refl);
      not_older = λ older. let second : 9 ≡ 0 = older 2 (omega arith) in omega arith;
      not_newer = λ each newer. both_ways false refl (each 0 (omega arith));
    }

-- The first broken rule: of rule 5, which fails at 2 and at 4, the lower place, before rule 6 fails.
at_2_and_4 : ℕ → Type 0
at_2_and_4 p = (p ≡ 2 → ⊥) × (p ≡ 4 → ⊥)

two_rules : List Rule
two_rules = below 5 6 at_2_and_4 ∷ at_one 6 0 ⊥ ∷ []

lowest_place : BreaksFirst two_rules 5 2
unfolding two_rules at_2_and_4
lowest_place =
    inl (
      refl,
      record {
        from = omega arith;
        within = omega arith;
        before = λ p from lower. (λ e. omega arith, λ e. omega arith);
        fails = λ both. both.0 refl;
      },
    )

no_later_place : BreaksFirst two_rules 5 4 → ⊥
unfolding two_rules at_2_and_4
no_later_place (inl here) = (here.1.before 2 (omega arith) (omega arith)).0 refl
no_later_place (inr later) = (later.0 2 (omega arith) (omega arith)).0 refl

no_later_rule : BreaksFirst two_rules 6 0 → ⊥
unfolding two_rules at_2_and_4
no_later_rule (inl here) = absurd (let five : 6 ≡ 5 = here.0 in omega arith)
no_later_rule (inr later) = (later.0 2 (omega arith) (omega arith)).0 refl

-- the rules in their order
order_of_rules : (bytes : ℕ) (f : Words) (v : Volume) (j : Words) → map (λ (r : Rule). r.number) (rules_of bytes f v j) ≡ 1 ∷ 2 ∷ 3 ∷ 4 ∷ 11 ∷ 11 ∷ 5 ∷ 6 ∷ 7 ∷ 8 ∷ 9 ∷ 9 ∷ 10 ∷ 12 ∷ 13 ∷ []
order_of_rules bytes f v j = refl

-- Block 0: line 5 has a word that the one record would set to zero. It is read as it stands.
hidden : Words
hidden w = if w == 40 then 7 else if w == 8 then 1 else if w == 512 then 5 else 0

line_5_as_it_stands : (bytes : ℕ) → HasNumbers bytes hidden → ⊥
unfolding hidden
line_5_as_it_stands bytes numbers =
    let seven : hidden 40 ≡ 0 = numbers.others 40 (omega arith) (omega arith) (λ e. omega arith) (λ e. omega arith) in omega arith

-- staging files are inodes 1 to 4
staging_inodes : IsKindAt 4 Staging × (IsKindAt 5 Staging → ⊥) × (IsKindAt 0 Staging → ⊥)
staging_inodes = ((omega arith, omega arith), λ at. omega (arith, at.1), λ at. omega (arith, at.0))

-- A volume of two inodes and two names, of which inode line 0 is none and counts as free.
tiny : Geometry
tiny = record { version = 1; blocks = 64; log = 4; inodes = 2; names = 2 }

a_name : NameRow
a_name = record { parent = 0; child = 1; name = 97 ∷ [] }

tiny_words : Words
tiny_words =
    with_line (inode_line 0) (9 ∷ replicate 63 0)
    (with_line (inode_line 1) (encode_inode (empty_inode File 7)) (with_line (name_line tiny 1) (encode_name a_name) (with_line 2 (3 ∷ replicate 63 0) blank)))

tiny_volume : volume tiny tiny_words ≡ record { geometry = tiny; base = 3; inodes = free_inode ∷ empty_inode File 7 ∷ []; names = None ∷ Some a_name ∷ []; chains = [] ∷ [] ∷ []; maps = [] ∷ [] ∷ [] }
unfolding tiny a_name tiny_words volume word_at line_bytes decode_inode decode_name blocks_from
tiny_volume = refl

-- Contents: two files, and a live entry of the second behind a hole in the log. Its block 0 is block 1 of staging
-- file 1, which is block 10 of the device.
small : Geometry
small = record { version = 1; blocks = 64; log = 4; inodes = 16; names = 16 }

staging_inode : Inode
staging_inode = record { kind = Staging; generation = 1; size = 0; applied = 0; root = 8; extents = 1 }

file_with_applied : ℕ → Inode
file_with_applied applied = record { kind = File; generation = 1; size = 0; applied = applied; root = 0; extents = 0 }

two_files : ℕ → Volume
two_files applied =
    record {
      geometry = small;
      base = 1;
      inodes = empty_inode Directory 0 ∷ staging_inode ∷ empty_inode Staging 0 ∷ empty_inode Staging 0 ∷ empty_inode Staging 0
          ∷ file_with_applied 0 ∷ file_with_applied applied ∷ [];
      names = Some (record { parent = 0; child = 5; name = 120 ∷ [] }) ∷ Some (record { parent = 0; child = 6; name = 121 ∷ [] }) ∷ [];
      chains = [] ∷ (8 ∷ []) ∷ [];
      maps = [] ∷ (record { file = 0; disk = 9; count = 2 } ∷ []) ∷ [];
    }

logged : Words
logged = with_line (log_line small 1) (encode_entry a_draft 2) (λ w. if w == 5120 then 98 else 0)

content_at : ℕ → List (List ℕ) → Option Node
content_at applied path = found (two_files applied) (live_entries (two_files applied) logged) logged path

entry_behind_a_hole : (content_at 0 ((120 ∷ []) ∷ []) ≡ Some (HasBytes [])) × (content_at 0 ((121 ∷ []) ∷ []) ≡ Some (HasBytes (98 ∷ []))) × (content_at 0 [] ≡ Some IsDirectory) × (content_at 0 ((122 ∷ []) ∷ []) ≡ None)
unfolding content_at logged two_files file_with_applied staging_inode small a_draft found node_of walk line_bytes word_at encode_entry entry_body fnv_1a_from decode_entry
entry_behind_a_hole = (refl, refl, refl, refl)

-- an entry that is applied already is not live
applied_entry : content_at 1 ((121 ∷ []) ∷ []) ≡ Some (HasBytes [])
unfolding content_at logged two_files file_with_applied staging_inode small a_draft found node_of walk line_bytes word_at encode_entry entry_body fnv_1a_from decode_entry
applied_entry = refl
