-- The first broken rule of images in which a map is wrong: a root that leads to no chain, and a block that two name.
use Rattle.std.specs.Prelude.{◌≡◌, ◌≢◌, ℕ, ◌+◌, ◌-◌, ◌*◌, ◌/◌, ◌^◌, ◌<◌, ◌≤◌, ◌++◌, nat_le, List, [], ◌∷◌, length, map, true, Option, Some, unwrap_or, refl}
use Rattle.std.specs.List.{flat_map, range_with_len, list_all}
use Rattle.std.proofs.Common.{arith, inl, inr, ap, sym, ◌∙◌, subst}
use Rattle.std.proofs.lemmas.Bool.{leb-true, cases_eq}
use Rattle.volume_laws.specs.pm_model.Words.{Words, with_line}
use Rattle.volume_laws.specs.block_counts.Counts.{chains_for}
use Rattle.volume_laws.specs.layout_model.Places.{Geometry, IsGeometry, inode_line, name_line, first_data, data_blocks}
use Rattle.volume_laws.specs.layout_model.PlaceLaws.{inode_line-name_line}
use Rattle.volume_laws.specs.extent_model.declared.extent_words.Extent.{Extent}
use Rattle.volume_laws.specs.layout_model.declared.lines.Inode.{Inode}
use Rattle.volume_laws.specs.layout_model.declared.lines.Kind.TheVariants.{File}
use Rattle.volume_laws.specs.layout_model.Fresh.{empty_inode, fresh}
use Rattle.volume_laws.specs.layout_model.Lines.{encode_inode, decode_inode, FreeName, decode_name}
use Rattle.volume_laws.specs.layout_model.NameLaws.{decode_name-zeros}
use Rattle.volume_laws.specs.image_model.Broken.{Rule, FailsFirst, Breaks}
use Rattle.volume_laws.specs.image_model.Chains.{blocks_from, extent_in, extents_in, chain_of, map_of, SpellsChain}
use Rattle.volume_laws.specs.image_model.Reading.{AreBytes}
use Rattle.volume_laws.specs.image_model.Rules.{HasInode, HasChain, IsNameSlot, IsNamedOnce}
use Rattle.volume_laws.specs.image_model.Uses.{Holds, owners}
use Rattle.volume_laws.specs.image_model.Volume.{Volume, volume, inode_at, name_at, inode, chain, extents, free_inode}
use Rattle.volume_laws.specs.RuleLaws.{volume-of_words}
use Rattle.volume_laws.specs.LineWords.{with_line-out, line_bytes-set, line_bytes-other}
use Rattle.image_laws.specs.CheckedLaws.{volume-inode}
use Rattle.image_laws.specs.FreshLaws.{line-fresh, kind-fresh, unset-name, fresh_cases}
use Rattle.image_laws.specs.FreshLines.{fresh-zero, fresh-zeros}
use Rattle.volume_laws.specs.image_model.FreshVolume.{fresh_inode}
use Rattle.image_laws.specs.LineDamage.{AreBytes-test, IsLaidOn, laid-fresh, laid-line, breaks-behind_head}
use Rattle.image_laws.specs.Damage.{small}
use Rattle.image_laws.specs.VolumeTests.{passes-from}

-- Rule 7. File 5 has block 60 as the root of a chain of one extent; the block is zero, so that no extent stands there.
unfoldable pub rooted : Inode
rooted = record { kind = File; generation = 1; size = 0; applied = 0; root = 60; extents = 1 }

unfoldable pub rooted_image : Geometry → Words
rooted_image g = with_line (inode_line 5) (encode_inode rooted) (fresh g)

rooted-bytes : AreBytes (encode_inode rooted)
unfolding rooted
rooted-bytes = AreBytes-test (encode_inode rooted) refl refl

rooted-read : decode_inode (encode_inode rooted) ≡ Some rooted
unfolding rooted decode_inode
rooted-read = refl

line_5 : (g : Geometry) → inode_at (rooted_image g) 5 ≡ Some rooted
unfolding rooted_image
line_5 g = ap decode_inode (line_bytes-set (inode_line 5) (encode_inode rooted) (fresh g) rooted-bytes) ∙ rooted-read

other_inode : (g : Geometry) (ino : ℕ) → ino ≢ 5 → inode_at (rooted_image g) ino ≡ Some (fresh_inode ino)
unfolding rooted_image
other_inode g ino apart =
    ap decode_inode (line_bytes-other (inode_line 5) (inode_line ino) (encode_inode rooted) (fresh g) (λ e. apart (omega arith))) ∙ line-fresh g ino

word_60 : (g : Geometry) → rooted_image g 30720 ≡ 0
unfolding rooted_image
word_60 g =
    with_line-out (inode_line 5) (encode_inode rooted) (fresh g) 30720 (λ e. omega arith)
    ∙ fresh-zero g 30720 (record { superblock = λ e. omega arith; state = λ e. omega arith; inodes = λ ino below e. omega arith })

-- an inode without a map keeps the rule
empty_chain : (j : Words) (x : Inode) → x.extents ≡ 0 → chain_of j x ≡ []
unfolding blocks_from
empty_chain j x none = ap (λ n. blocks_from j x.root (chains_for n)) none

empty_spelled : (j : Words) (blocks : List ℕ) (es : List Extent) → blocks ≡ [] → es ≡ [] → SpellsChain j blocks es
unfolding SpellsChain
empty_spelled j blocks es b e = subst (λ bs. SpellsChain j bs es) (sym b) e

no_map : (g : Geometry) (j : Words) (ino : ℕ) → ino < g.inodes → (inode (volume g j) ino).extents ≡ 0 → HasChain (volume g j) j ino
no_map g j ino within count =
    let v = volume g j in
    let of = volume-of_words g j ino within in
    let blocks : chain v ino ≡ [] = of.chain_is ∙ empty_chain j (inode v ino) count in
    let es : extents v ino ≡ [] = of.map_is ∙ ap (flat_map (extents_in j)) (empty_chain j (inode v ino) count) in
    record {
      spelled = empty_spelled j (chain v ino) (extents v ino) blocks es;
      count = ap length es ∙ sym count;
      blocks = λ k d lt. absurd (let none = ap length blocks in omega arith);
      canonical = record {
        each = λ k d lt. absurd (let none = ap length es in omega arith);
        rising = λ i k d order lt. absurd (let none = ap length es in omega arith);
      };
      in_data = λ k d lt. absurd (let none = ap length es in omega arith);
    }

fresh-extents : (ino : ℕ) → (fresh_inode ino).extents ≡ 0
fresh-extents ino = fresh_cases (λ i x. x.extents ≡ 0) ino (λ e. refl) (λ from to. refl) (λ far. refl)

-- the chain of file 5 is block 60, and no extent stands there
rooted-map : (g : Geometry) → map_of (rooted_image g) rooted ≡ []
unfolding rooted blocks_from
rooted-map g = ap (λ (n : ℕ). map (extent_in (rooted_image g) 60) (range_with_len 0 (n / 2 ^ 32)) ++ []) (word_60 g)

rooted-laid : (g : Geometry) → IsLaidOn g (rooted_image g)
unfolding rooted_image
rooted-laid g = laid-line g (fresh g) (inode_line 5) (encode_inode rooted) (laid-fresh g) (omega arith)

has_inode : (g : Geometry) (p : ℕ) → HasInode (rooted_image g) p
unfolding rooted
has_inode g p =
    elim (cases_eq p 5) [
      | inl same ↦ record { line = rooted; is = ap (inode_at (rooted_image g)) same ∙ line_5 g; kind = omega arith }
      | inr apart ↦ record { line = fresh_inode p; is = other_inode g p apart; kind = kind-fresh p }
    ]

no_name : (g : Geometry) (k : ℕ) → IsGeometry g → name_at g (rooted_image g) k ≡ FreeName
unfolding rooted_image
no_name g k ok =
    ap decode_name
    (
    line_bytes-other (inode_line 5) (name_line g k) (encode_inode rooted) (fresh g) (λ e. inode_line-name_line g 5 k (omega (arith, ok.least_inodes)) (sym e))
    ∙ fresh-zeros g (name_line g k) (unset-name g k ok)
    )
    ∙ decode_name-zeros

pub root_leads_to_zeros : (g : Geometry) → IsGeometry g → Breaks (4096 * g.blocks) (rooted_image g) 7 5
unfolding volume rooted
root_leads_to_zeros g ok =
    let h = rooted_image g in
    let v = volume g h in
    let within : 5 < g.inodes = omega (arith, ok.least_inodes) in
    let free_name : (k : ℕ) → name_at g h k ≡ FreeName = λ k. no_name g k ok in
    breaks-behind_head g h 7 5 ok (rooted-laid g)
    (inr (
      λ p from below. has_inode g p,
      inr (
        λ p from below. subst (IsNameSlot v) (sym (free_name p)) tt,
        inl (
          refl,
          record {
            from = omega arith;
            within = omega arith;
            before = λ p from lower.
                no_map g h p (omega arith)
                (ap (λ (x : Inode). x.extents) (volume-inode g h p (omega arith) ∙ ap (λ (o : Option Inode). unwrap_or o free_inode) (other_inode g p (λ e. omega arith))) ∙ fresh-extents p);
            fails = λ has.
                let line : inode v 5 ≡ rooted = volume-inode g h 5 within ∙ ap (λ (o : Option Inode). unwrap_or o free_inode) (line_5 g) in
                let none : extents v 5 ≡ [] = (volume-of_words g h 5 within).map_is ∙ ap (map_of h) line ∙ rooted-map g in
                let count : length (extents v 5) ≡ 1 = has.count ∙ ap (λ (x : Inode). x.extents) line in
                absurd (omega (arith, count, ap length none));
          },
        ),
      ),
    ))

-- Rule 8. Two files with one extent each, which share block 12; and a file whose chain block is one of its own blocks.
unfoldable pub sharing : List (List ℕ) → List (List Extent) → Volume
sharing chains maps =
    record {
      geometry = small;
      base = 1;
      inodes = map fresh_inode (range_with_len 0 5) ++ empty_inode File 1 ∷ empty_inode File 1 ∷ [];
      names = [];
      chains = [] ∷ [] ∷ [] ∷ [] ∷ [] ∷ chains;
      maps = [] ∷ [] ∷ [] ∷ [] ∷ [] ∷ maps;
    }

unfoldable pub extent_of : ℕ → ℕ → Extent
extent_of disk count = record { file = 0; disk = disk; count = count }

-- the rule on blocks alone
abbrev pub once : Volume → Rule
once v = record { number = 8; first = first_data v.geometry; count = data_blocks v.geometry; HoldsAt = IsNamedOnce v }

break_8 : (v : Volume) (b : ℕ) → first_data v.geometry ≤ b → b < first_data v.geometry + data_blocks v.geometry
    → list_all (λ c. nat_le (length (owners v c)) 1) (range_with_len (first_data v.geometry) (b - first_data v.geometry)) ≡ true → ¬ IsNamedOnce v b → FailsFirst (once v) b
break_8 v b from within before fails =
    record {
      from = from;
      within = within;
      before = λ c low lower. leb-true (length (owners v c)) 1 (passes-from (λ x. nat_le (length (owners v x)) 1) (first_data v.geometry) (b - first_data v.geometry) c before low (omega arith));
      fails = fails;
    }

pub block_of_two_files : FailsFirst (once (sharing ((8 ∷ []) ∷ (9 ∷ []) ∷ []) ((extent_of 10 3 ∷ []) ∷ (extent_of 12 2 ∷ []) ∷ []))) 12
unfolding sharing extent_of owners
block_of_two_files = break_8 (sharing ((8 ∷ []) ∷ (9 ∷ []) ∷ []) ((extent_of 10 3 ∷ []) ∷ (extent_of 12 2 ∷ []) ∷ [])) 12 (omega arith) (omega arith) refl (λ one. omega arith)

pub chain_block_of_its_file : FailsFirst (once (sharing ((10 ∷ []) ∷ [] ∷ []) ((extent_of 10 1 ∷ []) ∷ [] ∷ []))) 10
unfolding sharing extent_of owners
chain_block_of_its_file = break_8 (sharing ((10 ∷ []) ∷ [] ∷ []) ((extent_of 10 1 ∷ []) ∷ [] ∷ [])) 10 (omega arith) (omega arith) refl (λ one. omega arith)

-- and who they are
pub users_of_12 : owners (sharing ((8 ∷ []) ∷ (9 ∷ []) ∷ []) ((extent_of 10 3 ∷ []) ∷ (extent_of 12 2 ∷ []) ∷ [])) 12 ≡ Holds 5 2 ∷ Holds 6 0 ∷ []
unfolding sharing extent_of owners
users_of_12 = refl
