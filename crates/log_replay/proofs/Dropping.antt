-- Nameless files go one after the other.
use Rattle.std.specs.Prelude.{◌≡◌, ◌≢◌, ◌⊎◌, ◌<◌, ◌≤◌, ◌+◌, ◌*◌, ℕ, [], length, refl}
use Rattle.std.proofs.Common.{◌∙◌, sym, ap, subst, arith, inl, inr}
use Rattle.std.proofs.lemmas.Bool.{cases_eq, cases_lt}
use Rattle.std.proofs.lemmas.List.{get_or_past, length-set}
use Rattle.world_image_laws.specs.pm_model.Powers.{Steps, Supply}
use Rattle.world_image_laws.specs.layout_model.Places.{data_blocks, Geometry}
use Rattle.world_image_laws.specs.layout_model.declared.lines.Inode.{Inode}
use Rattle.world_image_laws.specs.layout_model.declared.lines.Kind.{Kind}
use Rattle.world_image_laws.specs.layout_model.declared.lines.Kind.TheVariants.{File, Free}
use Rattle.world_image_laws.specs.layout_model.Names.{names_of}
use Rattle.world_image_laws.specs.image_model.Room.{unused_blocks}
use Rattle.world_image_laws.specs.image_model.Rules.{file_blocks_of, IsKindAt}
use Rattle.world_image_laws.specs.image_model.Volume.{chain, extents, free_inode, inode, Volume}
use Rattle.k_split.specs.k_plans.Whole.{IsWhole}
use Rattle.world_image_laws.specs.k_split_model.ChangesChanges.{dropped, gone_node}
use Rattle.world_image_laws.specs.k_split_model.View.{View}
use Rattle.world_image_laws.specs.volume_laws.Changes.{chain-set_other, chain-set_same, extents-set_other, extents-set_same, inode-set_other, inode-set_same}
use Rattle.world_image_laws.specs.volume_laws.PoolLaws.{held-set, unused-held}
use Rattle.world_image_laws.specs.volume_laws.Uses.{blocks_held, HasAllMaps}
use Rattle.log_replay.specs.Sheds.{AllNamed, IsAtRest, IsKeptAt, IsNameless, IsShedAt, IsShedOne, LosesNameless, SameOutside, Sheds}

-- What the loop keeps: all below this inode have a name.
pub record HasShed (old new : View) (ino : ℕ) : Type 0 where
  pub rest : IsAtRest new
  pub sheds : Sheds old.volume new.volume
  pub free : unused_blocks old.volume ≤ unused_blocks new.volume
  pub others : SameOutside old.volume.geometry old.cells new.cells
  pub named : (i : ℕ) → i < ino → ¬ IsNameless new.volume i

-- where nothing went
same_volume : (v : Volume) → Sheds v v
same_volume v = record { geometry = refl; base = refl; names = refl; inode_count = refl; chain_count = refl; map_count = refl; each = λ ino. inl (record { line = refl; chain_is = refl; map = refl }) }

low_file : (ino : ℕ) (kind : Kind) → IsKindAt ino kind → kind ≡ File → 5 ≤ ino
low_file ino kind at is = subst (IsKindAt ino) is at

pub begun : (k : View) → IsAtRest k → HasShed k k 5
begun k rest = record {
  rest = rest;
  sheds = same_volume k.volume;
  free = omega arith;
  others = λ i out line. refl;
  named = λ i below nameless.
      let kept = rest.order.whole.kept in
      absurd (omega (arith, below, low_file i (inode k.volume i).kind (kept.kept.kinds i (omega (arith, below, kept.geometry.least_inodes))) nameless.file));
}

-- an inode that has a name is passed over
pub passed : (old new : View) (ino : ℕ) → HasShed old new ino → ¬ IsNameless new.volume ino → HasShed old new (ino + 1)
passed old new ino has named = record {
  rest = has.rest;
  sheds = has.sheds;
  free = has.free;
  others = has.others;
  named = λ i below. elim (cases_eq i ino) [ inl same ↦ subst (λ n. ¬ IsNameless new.volume n) (sym same) named | inr other ↦ has.named i (omega (arith, below, other)) ];
}

pub used_below : (v : Volume) (ino : ℕ) → (inode v ino).kind ≡ File → ino < length v.inodes
used_below v ino file = elim (cases_lt ino (length v.inodes)) [
  | inl below ↦ below
  | inr past ↦ let never : File ≡ Free = sym file ∙ ap (λ x. x.kind) (get_or_past v.inodes ino free_inode past) in cc
]

-- one goes
pub sheds_more : (v w : Volume) (c : ℕ) → Sheds v w → HasAllMaps w → IsNameless w c → Sheds v (dropped c w)
sheds_more v w c sheds all nameless = record {
  geometry = sheds.geometry;
  base = sheds.base;
  names = sheds.names;
  inode_count = length-set w.inodes c x ∙ sheds.inode_count;
  chain_count = length-set w.chains c [] ∙ sheds.chain_count;
  map_count = length-set w.maps c [] ∙ sheds.map_count;
  each = λ ino. elim (cases_eq ino c) [
    | inl same ↦ subst (λ n. IsKeptAt v (dropped c w) n ⊎ IsShedAt v (dropped c w) n) (sym same) (inr (own (sheds.each c)))
    | inr other ↦
        let line = inode-set_other c x [] [] w ino other in
        let chain_is = chain-set_other c x [] [] w ino other in
        let map = extents-set_other c x [] [] w ino other in
        elim (sheds.each ino) [
          | inl kept ↦ inl (record { line = line ∙ kept.line; chain_is = chain_is ∙ kept.chain_is; map = map ∙ kept.map })
          | inr shed ↦ inr (record { was = shed.was; line = line ∙ shed.line; chain_is = chain_is ∙ shed.chain_is; map = map ∙ shed.map })
        ]
  ];
} where
  x : Inode
  x = gone_node (inode w c)

  below : c < length w.inodes
  below = used_below w c nameless.file

  now_free : inode (dropped c w) c ≡ gone_node (inode w c)
  now_free = inode-set_same c x [] [] w below

  no_chain : chain (dropped c w) c ≡ []
  no_chain = chain-set_same c x [] [] w (omega (arith, below, all.chain_count))

  no_map : extents (dropped c w) c ≡ []
  no_map = extents-set_same c x [] [] w (omega (arith, below, all.map_count))

  own : IsKeptAt v w c ⊎ IsShedAt v w c → IsShedAt v (dropped c w) c
  own (inl kept) = record {
    was = record { file = ap (λ y. y.kind) (sym kept.line) ∙ nameless.file; nameless = ap (λ rows. names_of rows c) (sym sheds.names) ∙ nameless.nameless };
    line = now_free ∙ ap gone_node kept.line;
    chain_is = no_chain;
    map = no_map;
  }
  own (inr shed) = record { was = shed.was; line = now_free ∙ ap gone_node shed.line; chain_is = no_chain; map = no_map }

-- and its blocks are free
counted : (v : Volume) → IsWhole v → unused_blocks v + blocks_held v ≡ data_blocks v.geometry
counted v whole =
    unused-held v (λ ino. file_blocks_of (inode v ino).kind)
    (record { chains = λ ino below. whole.chains ino; files = λ ino below. whole.kept.kept.in_data ino (omega (arith, below, whole.kept.all.inode_count)) })
    (λ b is. whole.kept.kept.once b is)

pub frees_more : (w : Volume) (c : ℕ) → IsWhole w → IsWhole (dropped c w) → c < length w.inodes → unused_blocks w ≤ unused_blocks (dropped c w)
frees_more w c whole after below =
    omega (arith, counted w whole, counted (dropped c w) after, held-set w c (gone_node (inode w c)) [] [] below whole.maps)

still_named : (w : Volume) (c i : ℕ) → i ≢ c → ¬ IsNameless w i → ¬ IsNameless (dropped c w) i
still_named w c i other named nameless =
    named (record { file = sym (ap (λ x. x.kind) (inode-set_other c (gone_node (inode w c)) [] [] w i other)) ∙ nameless.file; nameless = nameless.nameless })

pub went : (old k new : View) (ino : ℕ) → HasShed old k ino → IsNameless k.volume ino → IsAtRest new → new.volume ≡ dropped ino k.volume → SameOutside k.volume.geometry k.cells new.cells → HasShed old new (ino + 1)
went old k new ino has nameless rest volume_is others = record {
  rest = rest;
  sheds = subst (Sheds old.volume) (sym volume_is) (sheds_more old.volume k.volume ino has.sheds has.rest.order.whole.maps nameless);
  free = omega (
    arith,
    has.free,
    ap unused_blocks volume_is,
    frees_more k.volume ino has.rest.order.whole (subst IsWhole volume_is rest.order.whole) (used_below k.volume ino nameless.file),
  );
  others = λ i out line. subst (λ g. SameOutside g k.cells new.cells) has.sheds.geometry others i out line ∙ has.others i out line;
  named = λ i below. subst (λ w. ¬ IsNameless w i) (sym volume_is) (elim (cases_eq i ino) [
    | inl same ↦ subst (λ n. ¬ IsNameless (dropped ino k.volume) n) (sym same) gone
    | inr other ↦ still_named k.volume ino i other (has.named i (omega (arith, below, other)))
  ]);
} where
  gone : ¬ IsNameless (dropped ino k.volume) ino
  gone is = let never : File ≡ Free = sym is.file ∙ ap (λ x. x.kind) (inode-set_same ino (gone_node (inode k.volume ino)) [] [] k.volume (used_below k.volume ino nameless.file)) in cc

-- at the end each file has a name
pub ended : (old new : View) (n : ℕ) → HasShed old new n → new.volume.geometry.inodes ≤ n → AllNamed new.volume
ended old new n has all ino file = elim (cases_lt 0 (names_of new.volume.names ino)) [
  | inl some ↦ some
  | inr none ↦
      absurd (has.named ino (omega (arith, used_below new.volume ino file, has.rest.order.whole.kept.all.inode_count, all)) (record { file = file; nameless = omega (arith, none) }))
]

-- ---- one inode after the other, with the power that is left

pub next_shed : (old k new : View) (ino : ℕ) → HasShed old k ino → IsShedOne ino k new → HasShed old new (ino + 1)
next_shed old k new ino has (inl kept) = subst (λ z. HasShed old z (ino + 1)) (sym kept.1) (passed old k ino has kept.0)
next_shed old k new ino has (inr gone) = went old k new ino has gone.0 gone.1 gone.2 gone.3

pub first_steps : (n : ℕ) (a : Supply) → Steps (256 * n) a a
first_steps n a = record { given = refl; on_before = λ on. on; later = omega arith; bound = omega arith }

pub more_steps : (n ino : ℕ) (a b c : Supply) → ino < n → Steps (256 * ino) a b → Steps 256 b c → Steps (256 * n) a c
more_steps n ino a b c below first second = record {
  given = second.given ∙ first.given;
  on_before = λ on. first.on_before (second.on_before on);
  later = omega (arith, first.later, second.later);
  bound = omega (arith, first.bound, second.bound, below);
}

pub all_steps : (old k : View) (ino : ℕ) (a b : Supply) → HasShed old k ino → (5 ≤ old.volume.geometry.inodes → ino ≤ old.volume.geometry.inodes)
    → IsAtRest old → Steps (256 * ino) a b → Steps (256 * old.volume.geometry.inodes) a b
all_steps old k ino a b has most rest first = record {
  given = first.given;
  on_before = first.on_before;
  later = first.later;
  bound =
      let least : 5 ≤ old.volume.geometry.inodes = omega (arith, rest.order.whole.kept.geometry.least_inodes) in
      omega (arith, first.bound, most least);
}

pub all_gone : (old k : View) (ino : ℕ) → HasShed old k ino → old.volume.geometry.inodes ≤ ino → LosesNameless old k
all_gone old k ino has all = record {
  rest = has.rest;
  named = ended old k ino has (omega (arith, all, ap (λ (g : Geometry). g.inodes) has.sheds.geometry));
  sheds = has.sheds;
  free = has.free;
  others = has.others;
}
