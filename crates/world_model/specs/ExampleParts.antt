-- The parts of the worked world, each by itself.
use Rattle.std.specs.Prelude.{◌≡◌, ◌≢◌, ◌⊎◌, ◌<◌, ◌≤◌, ℕ, zero, suc, ◌+◌, ◌-◌, ◌/◌, ◌==◌, ◌&&◌, All, Bool, true, false, cond, List, [], ◌∷◌, ◌++◌, length, map, Option, Some, None, option_and_then, option_map, slice_index, refl}
use Rattle.std.proofs.Common.{arith, ap, ◌∙◌, sym, subst, inl, inr}
use Rattle.std.proofs.lemmas.Bool.Decides.{nat_tests}
use Rattle.std.proofs.lemmas.Option.{same_Some}
use Rattle.name_laws.specs.volume_laws.image_model.layout_model.Fields.{is_same}
use Rattle.name_laws.specs.volume_laws.image_model.extent_model.declared.extent_words.Extent.{Extent}
use Rattle.name_laws.specs.volume_laws.image_model.extent_model.Extents.{holds_disk}
use Rattle.name_laws.specs.volume_laws.image_model.layout_model.declared.lines.Draft.{Draft}
use Rattle.name_laws.specs.volume_laws.image_model.layout_model.declared.lines.Kind.TheVariants.{Staging}
use Rattle.name_laws.specs.volume_laws.image_model.layout_model.Lines.{is_name, NameRow}
use Rattle.name_laws.specs.volume_laws.image_model.layout_model.Names.{child_named, line_and_child, names_of, row, up}
use Rattle.name_laws.specs.volume_laws.image_model.Content.{byte_in, disk_of}
use Rattle.name_laws.specs.volume_laws.image_model.Kept.{IsNamedRow}
use Rattle.name_laws.specs.volume_laws.image_model.Live.{is_directory}
use Rattle.name_laws.specs.volume_laws.image_model.Rules.{file_blocks_of, HasOneName, HasStagingBlocks, IsInData, IsKindAt, IsNamedOnce, IsRowPlaced}
use Rattle.name_laws.specs.volume_laws.image_model.Uses.{Holds, owners}
use Rattle.name_laws.specs.volume_laws.image_model.Volume.{extents, inode}
use Rattle.crash_spec.specs.posix_laws.posix_tables.declared.nodes.DirEntry.{DirEntry}
use Rattle.crash_spec.specs.posix_laws.posix_tables.declared.nodes.Node.{Node}
use Rattle.crash_spec.specs.posix_laws.posix_tables.Names.{child_of}
use Rattle.crash_spec.specs.posix_laws.posix_tables.Nodes.{node_at}
use Rattle.crash_spec.specs.posix_laws.posix_tables.Open.{binding_of, key_of, opened}
use Rattle.crash_spec.specs.posix_laws.posix_spec.FileRows.{write_rows}
use Rattle.crash_spec.specs.posix_laws.posix_spec.Put.{put_by}
use Rattle.crash_spec.specs.list_laws.Members.{In}
use Rattle.crash_spec.specs.posix_laws.Puts.{PutsWhole}
use Rattle.crash_spec.specs.posix_laws.Views.{AreAfforded}
use Rattle.world_model.specs.Jobs.{unfinished_call, live_claims}
use Rattle.world_model.specs.Stands.{Consecutive, entries_of, FileStands, IsSane, IsUsed, LogStands, NamesStand, NodesStand, NodeStands, number}
use Rattle.world_model.specs.Example.{claims_a, entry_a, job_a, numbers_a, one_entry, staged_at, staged_extent, state_a, volume_a, words_a}
use Rattle.crash_spec.specs.posix_laws.posix_spec.State.{Fits}

-- What the volume keeps.

-- inodes 0 and 5 are in use
is_0_or_5 : (ino : ℕ) → IsUsed volume_a ino → (ino ≡ 0) ⊎ (ino ≡ 5)
is_0_or_5 zero used = inl refl
is_0_or_5 (suc zero) used = cc
is_0_or_5 (suc (suc zero)) used = cc
is_0_or_5 (suc (suc (suc zero))) used = cc
is_0_or_5 (suc (suc (suc (suc zero)))) used = cc
is_0_or_5 (suc (suc (suc (suc (suc zero))))) used = inr refl
is_0_or_5 (suc (suc (suc (suc (suc (suc n)))))) used = cc

kinds : (ino : ℕ) → ino < 6 → IsKindAt ino (inode volume_a ino).kind
kinds zero below = inl refl
kinds (suc zero) below = (omega arith, omega arith)
kinds (suc (suc zero)) below = (omega arith, omega arith)
kinds (suc (suc (suc zero))) below = (omega arith, omega arith)
kinds (suc (suc (suc (suc zero)))) below = (omega arith, omega arith)
kinds (suc (suc (suc (suc (suc zero))))) below = omega arith
kinds (suc (suc (suc (suc (suc (suc n)))))) below = absurd (omega (arith, below))

once : (b : ℕ) → IsNamedOnce volume_a b
unfolding owners
once b = by (holds_disk staged_extent b) where
  by : (c : Bool) → length (map (λ (e : Extent). Holds 1 (e.file + (b - e.disk))) (cond c (staged_extent ∷ []) []) ++ []) ≤ 1
  by true = omega arith
  by false = omega arith

in_data : (ino : ℕ) → ino < 6 → All (IsInData volume_a.geometry (file_blocks_of (inode volume_a ino).kind)) (extents volume_a ino)
in_data zero below i d short = absurd (omega (arith, short))
in_data (suc zero) below zero d short = (omega arith, omega arith, omega arith)
in_data (suc zero) below (suc i) d short = absurd (omega (arith, short))
in_data (suc (suc zero)) below i d short = absurd (omega (arith, short))
in_data (suc (suc (suc zero))) below i d short = absurd (omega (arith, short))
in_data (suc (suc (suc (suc zero)))) below i d short = absurd (omega (arith, short))
in_data (suc (suc (suc (suc (suc zero))))) below i d short = absurd (omega (arith, short))
in_data (suc (suc (suc (suc (suc (suc n)))))) below i d short = absurd (omega (arith, below))

named : (k : ℕ) → k < 1 → IsNamedRow volume_a (row volume_a.names k)
named zero below = (inr refl, omega arith)
named (suc k) below = absurd (omega (arith, below))

placed : (k : ℕ) → k < 1 → IsRowPlaced volume_a k (row volume_a.names k)
unfolding up
placed zero below = record { parent = refl; only = only; steps = (0, omega arith, refl) } where
  only : (later : ℕ) (r : NameRow) → 0 < later → row volume_a.names later ≡ Some r → r.parent ≡ 0 → r.name ≢ 97 ∷ []
  only zero r after is parent name = omega (arith, after)
  only (suc later) r after is parent name = cc
placed (suc k) below = absurd (omega (arith, below))

one_directory : (ino : ℕ) → 0 < ino → is_directory (inode volume_a ino).kind ≡ true → 1 ≤ names_of volume_a.names ino
one_directory zero after is = absurd (omega (arith, after))
one_directory (suc zero) after is = cc
one_directory (suc (suc zero)) after is = cc
one_directory (suc (suc (suc zero))) after is = cc
one_directory (suc (suc (suc (suc zero)))) after is = cc
one_directory (suc (suc (suc (suc (suc zero))))) after is = cc
one_directory (suc (suc (suc (suc (suc (suc n)))))) after is = cc

one_name : (ino : ℕ) → ino < 6 → HasOneName volume_a ino
one_name zero below = omega arith
one_name (suc zero) below = omega arith
one_name (suc (suc zero)) below = omega arith
one_name (suc (suc (suc zero))) below = omega arith
one_name (suc (suc (suc (suc zero)))) below = omega arith
one_name (suc (suc (suc (suc (suc zero))))) below = omega arith
one_name (suc (suc (suc (suc (suc (suc n)))))) below = absurd (omega (arith, below))

spelled : (k : ℕ) (r : NameRow) → row volume_a.names k ≡ Some r → is_name r.name ≡ true
spelled zero r is = ap (λ (x : NameRow). is_name x.name) (sym (same_Some (let a : NameRow = record { parent = 0; child = 5; name = 97 ∷ [] } in a) r is))
spelled (suc k) r is = cc

pub sane : IsSane volume_a
sane = record {
  kept = record { kinds = kinds; named = named; in_data = in_data; once = λ b is. once b; placed = placed; directories = record { each = one_directory; root = refl }; one_name = one_name };
  inode_count = refl;
  name_count = refl;
  chain_count = refl;
  map_count = refl;
  spelled = spelled;
}

-- What stands.

pub names_stand : NamesStand volume_a numbers_a state_a
names_stand = record { root = refl; root_used = refl; within = within; one = one; names = names; entry_parents = entry_parents; distinct = (refl, tt) } where
  within : (ino : ℕ) → IsUsed volume_a ino → number numbers_a ino < 2
  within ino used = elim (is_0_or_5 ino used) [
    | inl root ↦ subst (λ n. number numbers_a n < 2) (sym root) (omega arith)
    | inr file ↦ subst (λ n. number numbers_a n < 2) (sym file) (omega arith)
  ]

  one : (i j : ℕ) → IsUsed volume_a i → IsUsed volume_a j → number numbers_a i ≡ number numbers_a j → i ≡ j
  one i j i_used j_used same = elim (is_0_or_5 i i_used) [
    | inl i_root ↦ elim (is_0_or_5 j j_used) [
      | inl j_root ↦ i_root ∙ sym j_root
      | inr j_file ↦ let never : 0 ≡ 1 = ap (number numbers_a) (sym i_root) ∙ (same ∙ ap (number numbers_a) j_file) in absurd (omega (arith, never))
    ]
    | inr i_file ↦ elim (is_0_or_5 j j_used) [
      | inl j_root ↦ let never : 1 ≡ 0 = ap (number numbers_a) (sym i_file) ∙ (same ∙ ap (number numbers_a) j_root) in absurd (omega (arith, never))
      | inr j_file ↦ i_file ∙ sym j_file
    ]
  ]

  names : (p : ℕ) (name : List ℕ) → IsUsed volume_a p → option_map (number numbers_a) (child_named volume_a.names p name) ≡ child_of state_a.entries (number numbers_a p) name
  names zero name used = by (is_same (97 ∷ []) name) where
    by : (c : Bool)
        → option_map (number numbers_a)
        (option_and_then (λ (found : ℕ × ℕ). Some found.1)
        (option_and_then (λ (found : ℕ × Option NameRow). Some (line_and_child found)) (cond c (Some (0, Some (let r : NameRow = record { parent = 0; child = 5; name = 97 ∷ [] } in r))) None)))
        ≡ option_map (λ (e : DirEntry). e.child) (cond c (Some (let e : DirEntry = record { parent = 0; name = 97 ∷ []; child = 1 } in e)) None)
    by true = refl
    by false = refl
  names (suc zero) name used = cc
  names (suc (suc zero)) name used = cc
  names (suc (suc (suc zero))) name used = cc
  names (suc (suc (suc (suc zero)))) name used = cc
  names (suc (suc (suc (suc (suc zero))))) name used = refl
  names (suc (suc (suc (suc (suc (suc n)))))) name used = cc

  entry_parents : (n : ℕ) (name : List ℕ) (m : ℕ) → child_of state_a.entries n name ≡ Some m → (p : ℕ) × IsUsed volume_a p × (number numbers_a p ≡ n)
  entry_parents zero name m leads = (0, refl, refl)
  entry_parents (suc n) name m leads = by (0 == suc n) (other n) leads where
    other : (k : ℕ) → (0 == suc k) ≡ false
    other k = grind (arith, nat_tests)

    by : (c : Bool) → c ≡ false
        → option_map (λ (e : DirEntry). e.child) (cond (c && is_same (97 ∷ []) name) (Some (let e : DirEntry = record { parent = 0; name = 97 ∷ []; child = 1 } in e)) None) ≡ Some m
        → (p : ℕ) × IsUsed volume_a p × (number numbers_a p ≡ suc n)
    by true apart is = cc
    by false apart is = cc

file_stands : FileStands volume_a (live_claims volume_a claims_a) words_a 5 (1 ∷ 2 ∷ 3 ∷ [])
file_stands = record { size = refl; each = each } where
  each : (i : ℕ) → i < 3 → byte_in words_a (disk_of volume_a (live_claims volume_a claims_a) 5 (i / 4096)) i ≡ slice_index (1 ∷ 2 ∷ 3 ∷ []) i
  each zero below = refl
  each (suc zero) below = refl
  each (suc (suc zero)) below = refl
  each (suc (suc (suc i))) below = absurd (omega (arith, below))

pub nodes_stand : NodesStand volume_a (live_claims volume_a claims_a) words_a numbers_a state_a
nodes_stand = record { each = each; all = all } where
  each : (ino : ℕ) → IsUsed volume_a ino → NodeStands volume_a (live_claims volume_a claims_a) words_a ino (inode volume_a ino).kind (node_at state_a.nodes (number numbers_a ino))
  each zero used = tt
  each (suc zero) used = cc
  each (suc (suc zero)) used = cc
  each (suc (suc (suc zero))) used = cc
  each (suc (suc (suc (suc zero)))) used = cc
  each (suc (suc (suc (suc (suc zero))))) used = file_stands
  each (suc (suc (suc (suc (suc (suc n)))))) used = cc

  all : (n : ℕ) → node_at state_a.nodes n ≢ Node.Gone → (ino : ℕ) × IsUsed volume_a ino × (number numbers_a ino ≡ n)
  all zero there = (0, refl, refl)
  all (suc zero) there = (5, refl, refl)
  all (suc (suc n)) there = absurd (there refl)

pub log_stands : LogStands volume_a (live_claims volume_a claims_a)
log_stands = record { staging = staging; staged = staged; apart = λ d e d_is e_is. inl (sym (one_entry d d_is) ∙ one_entry e e_is); orders = orders } where
  staging : (d : Draft) → In d (live_claims volume_a claims_a) → (inode volume_a d.staging).kind ≡ Staging
  staging d is = ap (λ (e : Draft). (inode volume_a e.staging).kind) (sym (one_entry d is))

  staged : (d : Draft) → In d (live_claims volume_a claims_a) → HasStagingBlocks volume_a d
  staged d is = subst (HasStagingBlocks volume_a) (one_entry d is) (staged_at 0 1 refl)

  orders : (ino : ℕ) → Consecutive (inode volume_a ino).applied (entries_of ino (live_claims volume_a claims_a))
  orders ino = by (5 == ino) refl where
    five : (n : ℕ) → (5 == n) ≡ true → 5 ≡ n
    five n is = grind (arith, nat_tests)

    by : (c : Bool) → (5 == ino) ≡ c → Consecutive (inode volume_a ino).applied (cond c (entry_a 0 1 ∷ []) [])
    by true is = subst (λ n. Consecutive (inode volume_a n).applied (entry_a 0 1 ∷ [])) (five ino is) (refl, tt)
    by false is = tt

-- The write in flight.

pub puts : PutsWhole state_a job_a.who job_a.call 1 (1 ∷ 9 ∷ 3 ∷ [])
unfolding put_by write_rows opened key_of binding_of
puts = record { put = record { node = 1; place = 1; bytes = 9 ∷ [] }; is = refl; node_is = refl; whole_is = refl }

pub afforded : AreAfforded state_a (unfinished_call job_a ∷ [])
unfolding opened key_of binding_of
afforded = omega arith

pub fits : Fits state_a
fits = omega arith
