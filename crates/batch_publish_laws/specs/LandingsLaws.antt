-- What a landing of several entries leaves, block by block.
use Rattle.batch_laws.specs.Ready.{GoesReady}
use Rattle.batch_laws.specs.Standing.{staged_of}
use Rattle.batch_laws.specs.WorldsLaws.{cut_is_world, live_is_world}
use Rattle.batch_publish_laws.specs.Moves.{LeavesMoved, landing_of, loses, moves_from, run_of_draft, runs_of}
use Rattle.batch_publish_laws.specs.RenewalsLaws.{below_file}
use Rattle.live_model.specs.extent_model.Extents.{disk_at, is_within}
use Rattle.live_model.specs.extent_model.declared.extent_words.Extent.{Extent}
use Rattle.live_model.specs.image_model.Content.{entry_of_block}
use Rattle.live_model.specs.image_model.Live.{later_of, latest}
use Rattle.live_model.specs.image_model.Volume.{Volume, chain, extents, inode}
use Rattle.live_model.specs.k_split.block_io.k_split_model.MapChangesChanges.{with_length}
use Rattle.live_model.specs.k_split_model.MapChangesChanges.{AreAllMoved, MovesAll, touched, with_lefts, with_other}
use Rattle.live_model.specs.k_split_model.declared.map_changes.moves.MoveRun.{MoveRun}
use Rattle.live_model.specs.layout_model.declared.lines.Draft.{Draft}
use Rattle.live_model.specs.layout_model.declared.lines.Inode.{Inode}
use Rattle.live_model.specs.layout_model.declared.lines.Kind.TheVariants.{File, Staging}
use Rattle.live_model.specs.list_laws.Filters.{filter-In, filter-agree}
use Rattle.live_model.specs.list_laws.Members.{In}
use Rattle.live_model.specs.volume_laws.Changes.{chain-set_other, chain-set_same, extents-set_other, extents-set_same}
use Rattle.live_model.specs.world_image_laws.k_split_model.Taken.{switched, with_map}
use Rattle.live_model.specs.world_image_laws.image_model.Content.{disk_by}
use Rattle.live_model.specs.world_image_laws.image_model.Rules.{IsKindAt}
use Rattle.live_model.specs.world_model.Landed.{within_bounds}
use Rattle.live_model.specs.world_model.Latest.{latest-In}
use Rattle.live_model.specs.world_model.Stands.{Consecutive, IsSane}
use Rattle.live_model.specs.commute_laws.posix_types.declared.item.Item.{Item}
use Rattle.live_model.specs.file_table.Files.{Files}
use Rattle.live_model.specs.k_split_model.View.{View}
use Rattle.live_model.specs.layout_model.Places.{Geometry}
use Rattle.live_model.specs.pm_model.ImageLaws.{IsImage-words_of}
use Rattle.live_model.specs.pm_model.Images.{words_of}
use Rattle.live_model.specs.posix_spec.State.{State}
use Rattle.live_model.specs.world_image_laws.world_model.Stands.{LogStands}
use Rattle.posix_mode_laws.specs.Sides.{sized}
use Rattle.posix_mode_laws.specs.Sized.{kind-sized}
use Rattle.std.proofs.Common.{ap, arith, inl, inr, lt-ltb, subst, sym, ◌∙◌}
use Rattle.std.proofs.lemmas.Bool.{cases_Bool, cases_eq, eq-eqb, ne_eqb}
use Rattle.std.proofs.lemmas.Bool.Decides.{Decides-eqb, nat_tests}
use Rattle.std.proofs.lemmas.List.{length-set}
use Rattle.std.specs.List.{list_any, range_with_len}
use Rattle.std.specs.Prelude.{Bool, List, None, Option, Some, [], cond, false, filter, if◌then◌else◌, length, map, not, refl, suc, true, zero, ℕ, ◌&&◌, ◌+◌, ◌-◌, ◌<◌, ◌==◌, ◌||◌, ◌∷◌, ◌≡◌, ◌≢◌, ◌≤◌, ◌⊎◌}
use Rattle.world_write_laws.specs.PlaceSteps.{staging_below}
use Rattle.world_write_laws.specs.volume_laws.Changes.{inode-set_other, inode-set_same}
use Rattle.world_write_laws.specs.extent_model.Moves.{Moves}

-- ---- entries

pub in_four : (p : ℕ → Bool) (x : ℕ) → 1 ≤ x → x ≤ 4 → p x ≡ true → In x (filter p (range_with_len 1 4))
in_four p x least most passes = picked p (range_with_len 1 4) x (there x least most) passes where
  there : (x : ℕ) → 1 ≤ x → x ≤ 4 → In x (range_with_len 1 4)
  there zero least most = absurd (omega (arith, least))
  there (suc zero) least most = inl refl
  there (suc (suc zero)) least most = inr (inl refl)
  there (suc (suc (suc zero))) least most = inr (inr (inl refl))
  there (suc (suc (suc (suc zero)))) least most = inr (inr (inr (inl refl)))
  there (suc (suc (suc (suc (suc x))))) least most = absurd (omega (arith, most))

  picked : (p : ℕ → Bool) (xs : List ℕ) (x : ℕ) → In x xs → p x ≡ true → In x (filter p xs)
  picked p [] x is passes = absurd is
  picked p (y ∷ ys) x (inl same) passes = subst (λ (b : Bool). In x (if b then (y ∷ filter p ys) else filter p ys)) (sym (ap p same ∙ passes)) (inl same)
  picked p (y ∷ ys) x (inr behind) passes = by (p y) (picked p ys x behind passes) where
    by : (b : Bool) → In x (filter p ys) → In x (if b then (y ∷ filter p ys) else filter p ys)
    by true rest = inr rest
    by false rest = rest

-- no two of these entries share a block of a staging file
abbrev pub AreAllApart : List Draft → Type 0
AreAllApart ds = (d e : Draft) → In d ds → In e ds → (d ≡ e) ⊎ (d.staging ≡ e.staging → (d.staging_block + d.count ≤ e.staging_block) ⊎ (e.staging_block + e.count ≤ d.staging_block))

above : (n : ℕ) (ds : List Draft) (d : Draft) → Consecutive n ds → In d ds → n < d.order
above n [] d orders is = absurd is
above n (x ∷ ds) d orders (inl same) = omega (arith, orders.0, ap (λ (y : Draft). y.order) same)
above n (x ∷ ds) d orders (inr behind) = let more = above (n + 1) ds d orders.1 behind in omega (arith, more)

pub any_found : (p : Draft → Bool) (ds : List Draft) → list_any p ds ≡ true → (d : Draft) × In d ds × (p d ≡ true)
any_found p [] is = let never : false ≡ true = is in cc
any_found p (d ∷ ds) is = elim (cases_Bool (p d)) [
  | inl there ↦ (d, inl refl, there)
  | inr not_it ↦ (
      let rest = any_found p ds (sym (ap (λ (b : Bool). b || list_any p ds) not_it) ∙ is) in
      (rest.0, inr rest.1, rest.2))
]

-- the entry over a block that comes last is the one
abbrev covers : ℕ → ℕ → Draft → Bool
covers ino block d = (d.ino == ino) && is_within d.file_block d.count block

in_entry : (ds : List Draft) (ino block : ℕ) (d : Draft) → entry_of_block ds ino block ≡ Some d → In d ds × (is_within d.file_block d.count block ≡ true)
in_entry ds ino block d is =
    let its = filter-In (covers ino block) ds d (latest-In (filter (covers ino block) ds) d is) in
    (its.0, both (d.ino == ino) (is_within d.file_block d.count block) its.1)
  where
    both : (a b : Bool) → (a && b) ≡ true → b ≡ true
    both true b is = is
    both false b is = cc

-- of one entry before others
entry_first : (n : ℕ) (d : Draft) (ds : List Draft) (ino block : ℕ) → Consecutive n (d ∷ ds) → d.ino ≡ ino
    → entry_of_block (d ∷ ds) ino block ≡ (if is_within d.file_block d.count block then later_of d (entry_of_block ds ino block) else entry_of_block ds ino block)
entry_first n d ds ino block orders own = by (d.ino == ino) (is_within d.file_block d.count block) (eq-eqb d.ino ino own) where
  by : (a b : Bool) → a ≡ true → latest (if a && b then (d ∷ filter (covers ino block) ds) else filter (covers ino block) ds)
      ≡ (if b then later_of d (latest (filter (covers ino block) ds)) else latest (filter (covers ino block) ds))
  by true true is = refl
  by true false is = refl
  by false b is = cc

-- ---- maps

-- what a file has at a block, of an entry over it or of its own map
abbrev by_entry : Option Draft → (ℕ → List Extent) → List Extent → ℕ → Option ℕ
by_entry None src dst block = disk_at dst block
by_entry (Some d) src dst block = disk_at (src d.staging) (d.staging_block + (block - d.file_block))

past : (from many place : ℕ) → (place < from) ⊎ (from + many ≤ place) → is_within from many place ≡ false
past from many place (inl before) = grind (arith, nat_tests, before)
past from many place (inr behind) = grind (arith, nat_tests, behind)

-- another staging file, or another place of it, has what it had
other_place : (d : Draft) (one : List Extent) (src : ℕ → List Extent) (x place : ℕ) → ((p : ℕ) → disk_at one p ≡ (if not (is_within d.staging_block d.count p) then disk_at (src d.staging) p else None))
    → (d.staging ≡ x → is_within d.staging_block d.count place ≡ false) → disk_at (with_other d.staging one src x) place ≡ disk_at (src x) place
other_place d one src x place left apart = elim (cases_eq x d.staging) [
  | inl same ↦
      ap (λ (b : Bool). disk_at (if b then one else src x) place) (eq-eqb x d.staging same)
      ∙ (left place ∙ (ap (λ (b : Bool). if not b then disk_at (src d.staging) place else None) (apart (sym same)) ∙ ap (λ (i : ℕ). disk_at (src i) place) (sym same)))
  | inr differs ↦ ap (λ (b : Bool). disk_at (if b then one else src x) place) (ne_eqb x d.staging differs)
]

pub linked_at : (ds : List Draft) (n : ℕ) (src : ℕ → List Extent) (dst : List Extent) (left : ℕ → List Extent) (linked displaced : List Extent) (ino block : ℕ) → Consecutive n ds → ((d : Draft) → In d ds → d.ino ≡ ino)
    → AreAllApart ds → MovesAll (map run_of_draft ds) src dst left linked displaced → disk_at linked block ≡ by_entry (entry_of_block ds ino block) src dst block
linked_at [] n src dst left linked displaced ino block orders own apart moves = ap (λ (es : List Extent). disk_at es block) moves.1
linked_at (d ∷ ds) n src dst left linked displaced ino block orders own apart moves =
    linked_at ds (n + 1) (with_other d.staging moves.0 src) moves.1 left linked moves.3 ino block orders.1 (λ e is. own e (inr is)) (λ e f e_is f_is. apart e f (inr e_is) (inr f_is)) moves.5
    ∙ (by (entry_of_block ds ino block) (is_within d.file_block d.count block) refl refl
    ∙ ap (λ o. by_entry o src dst block) (sym (entry_first n d ds ino block orders (own d (inl refl)))))
  where
    first_moves : Moves d.staging_block d.file_block d.count (src d.staging) dst moves.0 moves.1 moves.2
    first_moves = moves.4

    at : (e : Draft) → entry_of_block ds ino block ≡ Some e → disk_at (with_other d.staging moves.0 src e.staging) (e.staging_block + (block - e.file_block)) ≡ disk_at (src e.staging) (e.staging_block + (block - e.file_block))
    at e entry =
        let its = in_entry ds ino block e entry in
        let bounds = within_bounds e.file_block e.count block its.1 in
        let low = above (n + 1) ds e orders.1 its.0 in
        other_place d moves.0 src e.staging (e.staging_block + (block - e.file_block)) first_moves.source.blocks
        (λ same. elim (apart d e (inl refl) (inr its.0)) [
          | inl one_entry ↦ absurd (omega (arith, orders.0, low, ap (λ (x : Draft). x.order) one_entry))
          | inr beside ↦ elim (beside same) [
            | inl before ↦ past d.staging_block d.count (e.staging_block + (block - e.file_block)) (inr (omega (arith, before)))
            | inr behind ↦ past d.staging_block d.count (e.staging_block + (block - e.file_block)) (inl (omega (arith, behind, bounds.0, bounds.1)))
          ]
        ])

    by : (o : Option Draft) (b : Bool) → entry_of_block ds ino block ≡ o → is_within d.file_block d.count block ≡ b
        → by_entry o (with_other d.staging moves.0 src) moves.1 block ≡ by_entry (if b then later_of d o else o) src dst block
    by None true entry within = first_moves.target block ∙ ap (λ (c : Bool). if c then disk_at (src d.staging) (d.staging_block + (block - d.file_block)) else disk_at dst block) within
    by None false entry within = first_moves.target block ∙ ap (λ (c : Bool). if c then disk_at (src d.staging) (d.staging_block + (block - d.file_block)) else disk_at dst block) within
    by (Some e) false entry within = at e entry
    by (Some e) true entry within =
        at e entry
        ∙ ap (λ (c : Bool). by_entry (Some (cond c e d)) src dst block) (sym (lt-ltb d.order e.order (let low = above (n + 1) ds e orders.1 (in_entry ds ino block e entry).0 in omega (arith, orders.0, low))))

pub left_at : (ds : List Draft) (src : ℕ → List Extent) (dst : List Extent) (left : ℕ → List Extent) (linked displaced : List Extent) (x place : ℕ) → MovesAll (map run_of_draft ds) src dst left linked displaced
    → disk_at (left x) place ≡ (if not (moves_from ds x place) then disk_at (src x) place else None)
left_at [] src dst left linked displaced x place moves = ap (λ (es : List Extent). disk_at es place) (moves.0 x)
left_at (d ∷ ds) src dst left linked displaced x place moves =
    left_at ds (with_other d.staging moves.0 src) moves.1 left linked moves.3 x place moves.5 ∙ by (d.staging == x) (is_within d.staging_block d.count place) (moves_from ds x place) refl refl
  where
    first_moves : Moves d.staging_block d.file_block d.count (src d.staging) dst moves.0 moves.1 moves.2
    first_moves = moves.4

    by : (a b c : Bool) → (d.staging == x) ≡ a → is_within d.staging_block d.count place ≡ b
        → (if not c then disk_at (with_other d.staging moves.0 src x) place else None) ≡ (if not ((a && b) || c) then disk_at (src x) place else None)
    by true true true here within = refl
    by true false true here within = refl
    by false b true here within = refl
    by true true false here within =
        let same : d.staging ≡ x = (Decides-eqb d.staging x).0 here in
        ap (λ (t : Bool). disk_at (if t then moves.0 else src x) place) (eq-eqb x d.staging (sym same))
        ∙ (first_moves.source.blocks place ∙ ap (λ (t : Bool). if not t then disk_at (src d.staging) place else None) within)
    by true false false here within = other_place d moves.0 src x place first_moves.source.blocks (λ same. within)
    by false b false here within =
        other_place d moves.0 src x place first_moves.source.blocks (λ same. (let never : true ≡ false = sym (eq-eqb d.staging x same) ∙ here in cc))

-- ---- the staging files

member : (x : ℕ) (xs : List ℕ) → In x xs ⊎ (In x xs → ⊥)
member x [] = inr (λ is. is)
member x (y ∷ ys) = elim (cases_eq y x) [
  | inl same ↦ inl (inl same)
  | inr other ↦ elim (member x ys) [
    | inl is ↦ inl (inr is)
    | inr out ↦ inr (λ is. by is other out)
  ]
] where
  by : In x (y ∷ ys) → y ≢ x → (In x ys → ⊥) → ⊥
  by (inl same) other out = other same
  by (inr behind) other out = out behind

module _ (rests : ℕ → List ℕ) (left : ℕ → List Extent) where
  -- one inode behind it, in the list or not
  abbrev HasLeft : List ℕ → Volume → ℕ → Type 0
  HasLeft xs u x =
      ((In x xs → ⊥) → (inode (with_lefts xs rests left u) x ≡ inode u x) × (chain (with_lefts xs rests left u) x ≡ chain u x) × (extents (with_lefts xs rests left u) x ≡ extents u x))
      × (In x xs → (inode (with_lefts xs rests left u) x ≡ with_map (rests x) (left x) (inode u x)) × (chain (with_lefts xs rests left u) x ≡ rests x) × (extents (with_lefts xs rests left u) x ≡ left x))

  -- all that stays
  pub lefts_stay : (xs : List ℕ) (u : Volume) → ((with_lefts xs rests left u).names ≡ u.names) × ((with_lefts xs rests left u).geometry ≡ u.geometry) × ((with_lefts xs rests left u).base ≡ u.base)
      × (length (with_lefts xs rests left u).inodes ≡ length u.inodes) × (length (with_lefts xs rests left u).chains ≡ length u.chains) × (length (with_lefts xs rests left u).maps ≡ length u.maps)
  lefts_stay [] u = (refl, refl, refl, refl, refl, refl)
  lefts_stay (x ∷ xs) u =
      let rest = lefts_stay xs (switched x (inode u x) (rests x) (left x) u) in
      (rest.0, rest.1, rest.2, rest.3 ∙ length-set u.inodes x (with_map (rests x) (left x) (inode u x)), rest.4 ∙ length-set u.chains x (rests x), rest.5 ∙ length-set u.maps x (left x))

  pub lefts_are : (xs : List ℕ) (u : Volume) → ((x : ℕ) → In x xs → (x < length u.inodes) × (x < length u.chains) × (x < length u.maps)) → (x : ℕ) → HasLeft xs u x
  lefts_are [] u below x = (λ out. (refl, refl, refl), λ is. absurd is)
  lefts_are (y ∷ ys) u below x =
      with_first (lefts_are ys (switched y (inode u y) (rests y) (left y) u) (λ z is. (
      let its = below z (inr is) in (
        subst (λ n. z < n) (sym (length-set u.inodes y (with_map (rests y) (left y) (inode u y)))) its.0,
        subst (λ n. z < n) (sym (length-set u.chains y (rests y))) its.1,
        subst (λ n. z < n) (sym (length-set u.maps y (left y))) its.2,
      ))) x)
    where
      line : Inode
      line = with_map (rests y) (left y) (inode u y)

      low : (y < length u.inodes) × (y < length u.chains) × (y < length u.maps)
      low = below y (inl refl)

      stays : x ≢ y → (inode (switched y (inode u y) (rests y) (left y) u) x ≡ inode u x) × (chain (switched y (inode u y) (rests y) (left y) u) x ≡ chain u x) × (extents (switched y (inode u y) (rests y) (left y) u) x ≡ extents u x)
      stays other = (inode-set_other y line (rests y) (left y) u x other, chain-set_other y line (rests y) (left y) u x other, extents-set_other y line (rests y) (left y) u x other)

      own : x ≡ y → inode (switched y (inode u y) (rests y) (left y) u) x ≡ with_map (rests x) (left x) (inode u x)
      own same = subst (λ z. inode (switched y (inode u y) (rests y) (left y) u) z ≡ with_map (rests z) (left z) (inode u z)) (sym same) (inode-set_same y line (rests y) (left y) u low.0)

      again : inode (switched y (inode u y) (rests y) (left y) u) x ≡ inode u x ⊎ (inode (switched y (inode u y) (rests y) (left y) u) x ≡ with_map (rests x) (left x) (inode u x))
          → with_map (rests x) (left x) (inode (switched y (inode u y) (rests y) (left y) u) x) ≡ with_map (rests x) (left x) (inode u x)
      again (inl same) = ap (with_map (rests x) (left x)) same
      again (inr same) = ap (with_map (rests x) (left x)) same

      by : HasLeft ys (switched y (inode u y) (rests y) (left y) u) x → In x ys ⊎ (In x ys → ⊥) → In x (y ∷ ys)
          → (inode (with_lefts (y ∷ ys) rests left u) x ≡ with_map (rests x) (left x) (inode u x)) × (chain (with_lefts (y ∷ ys) rests left u) x ≡ rests x) × (extents (with_lefts (y ∷ ys) rests left u) x ≡ left x)
      by rest (inl there) is =
          let its = rest.1 there in
          (its.0 ∙ again (elim (cases_eq x y) [ inl same ↦ inr (own same) | inr other ↦ inl (stays other).0 ]), its.1, its.2)
      by rest (inr out) (inr there) = absurd (out there)
      by rest (inr out) (inl same) =
          let its = rest.0 out in (
            its.0 ∙ own (sym same),
            its.1 ∙ subst (λ z. chain (switched y (inode u y) (rests y) (left y) u) z ≡ rests z) same (chain-set_same y line (rests y) (left y) u low.1),
            its.2 ∙ subst (λ z. extents (switched y (inode u y) (rests y) (left y) u) z ≡ left z) same (extents-set_same y line (rests y) (left y) u low.2),
          )

      with_first : HasLeft ys (switched y (inode u y) (rests y) (left y) u) x → HasLeft (y ∷ ys) u x
      with_first rest = (
        λ out. (
            let its = rest.0 (λ is. out (inr is)) in
            let same = stays (λ one. out (inl (sym one))) in
            (its.0 ∙ same.0, its.1 ∙ same.1, its.2 ∙ same.2)),
        λ is. by rest (member x ys) is,
      )

-- ---- THE LANDING

-- the staging files that lose blocks are those of the entries
pub touched_is : (ds : List Draft) → touched (map run_of_draft ds) ≡ filter (loses ds) (range_with_len 1 4)
touched_is ds = filter-agree (λ x. list_any (λ (r : MoveRun). r.staging == x) (map run_of_draft ds)) (loses ds) (range_with_len 1 4) (λ x is. any ds x) where
  any : (ds : List Draft) (x : ℕ) → list_any (λ (r : MoveRun). r.staging == x) (map run_of_draft ds) ≡ loses ds x
  any [] x = refl
  any (d ∷ ds) x = ap (λ (b : Bool). (d.staging == x) || b) (any ds x)

-- what is asked of the entries: they are of this file, in their order, in staging files, and apart
pub record MayAllMove (ds : List Draft) (ino : ℕ) (v : Volume) : Type 0 where
  pub sane : IsSane v
  pub file : (inode v ino).kind ≡ File
  pub own : (d : Draft) → In d ds → d.ino ≡ ino
  pub staging : (x : ℕ) → loses ds x ≡ true → (inode v x).kind ≡ Staging
  pub apart : AreAllApart ds
  pub last : ℕ
  pub orders : Consecutive last ds

module _ (free : ℕ → Bool) (ds : List Draft) (ino size applied : ℕ) (v w : Volume) (displaced : List Extent) (may : MayAllMove ds ino v) (moved : AreAllMoved free (landing_of ds ino size applied) v w displaced) where
  abbrev u : Volume
  u = with_lefts (touched (map run_of_draft ds)) moved.rests moved.left v

  abbrev line : Inode
  line = with_length size applied (inode v ino)

  stay : ((with_lefts (touched (map run_of_draft ds)) moved.rests moved.left v).names ≡ v.names) × ((with_lefts (touched (map run_of_draft ds)) moved.rests moved.left v).geometry ≡ v.geometry)
      × ((with_lefts (touched (map run_of_draft ds)) moved.rests moved.left v).base ≡ v.base) × (length (with_lefts (touched (map run_of_draft ds)) moved.rests moved.left v).inodes ≡ length v.inodes)
      × (length (with_lefts (touched (map run_of_draft ds)) moved.rests moved.left v).chains ≡ length v.chains) × (length (with_lefts (touched (map run_of_draft ds)) moved.rests moved.left v).maps ≡ length v.maps)
  stay = lefts_stay moved.rests moved.left (touched (map run_of_draft ds)) v

  touched_loses : (x : ℕ) → In x (touched (map run_of_draft ds)) → loses ds x ≡ true
  touched_loses x is = (filter-In (loses ds) (range_with_len 1 4) x (subst (In x) (touched_is ds) is)).1

  below : (x : ℕ) → (inode v x).kind ≡ Staging → (x < length v.inodes) × (x < length v.chains) × (x < length v.maps)
  below x staging =
      let low = staging_below v x staging in
      (low, subst (λ n. x < n) (may.sane.inode_count ∙ sym may.sane.chain_count) low, subst (λ n. x < n) (may.sane.inode_count ∙ sym may.sane.map_count) low)

  pub one : (x : ℕ) → HasLeft moved.rests moved.left (touched (map run_of_draft ds)) v x
  one = lefts_are moved.rests moved.left (touched (map run_of_draft ds)) v (λ x is. below x (may.staging x (touched_loses x is)))

  pub file_low : ino < length v.inodes
  file_low = below_file v ino may.file

  pub in_touched : (x : ℕ) → loses ds x ≡ true → In x (touched (map run_of_draft ds))
  in_touched x lost =
      let staging = may.staging x lost in
      let place : IsKindAt x Staging = subst (IsKindAt x) staging (may.sane.kept.kinds x (subst (λ n. x < n) may.sane.inode_count (staging_below v x staging))) in
      subst (In x) (sym (touched_is ds)) (in_four (loses ds) x place.0 place.1 lost)

  own_line : inode w ino ≡ with_map moved.blocks moved.linked (with_length size applied (inode v ino))
  own_line = ap (λ (x : Volume). inode x ino) moved.is_moved ∙ inode-set_same ino (with_map moved.blocks moved.linked line) moved.blocks moved.linked u (subst (λ n. ino < n) (sym stay.3) file_low)

  pub own_chain : chain w ino ≡ moved.blocks
  own_chain = ap (λ (x : Volume). chain x ino) moved.is_moved ∙ chain-set_same ino (with_map moved.blocks moved.linked line) moved.blocks moved.linked u
      (subst (λ n. ino < n) (sym stay.4) (subst (λ n. ino < n) (may.sane.inode_count ∙ sym may.sane.chain_count) file_low))

  pub own_map : extents w ino ≡ moved.linked
  own_map = ap (λ (x : Volume). extents x ino) moved.is_moved ∙ extents-set_same ino (with_map moved.blocks moved.linked line) moved.blocks moved.linked u
      (subst (λ n. ino < n) (sym stay.5) (subst (λ n. ino < n) (may.sane.inode_count ∙ sym may.sane.map_count) file_low))

  other_line : (i : ℕ) → i ≢ ino → inode w i ≡ inode (with_lefts (touched (map run_of_draft ds)) moved.rests moved.left v) i
  other_line i other = ap (λ (x : Volume). inode x i) moved.is_moved ∙ inode-set_other ino (with_map moved.blocks moved.linked line) moved.blocks moved.linked u i other

  pub other_chain : (i : ℕ) → i ≢ ino → chain w i ≡ chain (with_lefts (touched (map run_of_draft ds)) moved.rests moved.left v) i
  other_chain i other = ap (λ (x : Volume). chain x i) moved.is_moved ∙ chain-set_other ino (with_map moved.blocks moved.linked line) moved.blocks moved.linked u i other

  pub other_map : (i : ℕ) → i ≢ ino → extents w i ≡ extents (with_lefts (touched (map run_of_draft ds)) moved.rests moved.left v) i
  other_map i other = ap (λ (x : Volume). extents x i) moved.is_moved ∙ extents-set_other ino (with_map moved.blocks moved.linked line) moved.blocks moved.linked u i other

  seen : (o : Option Draft) (block : ℕ) → by_entry o (extents v) (extents v ino) block ≡ disk_by v o ino block
  seen None block = refl
  seen (Some d) block = refl

  pub inodes_stay : length w.inodes ≡ length v.inodes
  inodes_stay = ap (λ (x : Volume). length x.inodes) moved.is_moved ∙ (length-set u.inodes ino (with_map moved.blocks moved.linked line) ∙ stay.3)

  pub landing_leaves : LeavesMoved ds ino size applied v w
  landing_leaves = record {
    names = ap (λ (x : Volume). x.names) moved.is_moved ∙ stay.0;
    geometry = ap (λ (x : Volume). x.geometry) moved.is_moved ∙ stay.1;
    base = ap (λ (x : Volume). x.base) moved.is_moved ∙ stay.2;
    line = own_line ∙ sym ((λ i. with_map (own_chain i) (own_map i) (with_length size applied (inode v ino))));
    linked = λ block. ap (λ (es : List Extent). disk_at es block) own_map ∙ (linked_at ds may.last (extents v) (extents v ino) moved.left moved.linked displaced ino block may.orders may.own may.apart moved.moves
        ∙ seen (entry_of_block ds ino block) block);
    lines = λ x other lost. (
        let its = (one x).1 (in_touched x lost) in
        let map_is = other_map x other ∙ its.2 in
        let chain_is = other_chain x other ∙ its.1 in
        other_line x other ∙ (its.0 ∙ sym (λ i. with_map (chain_is i) (map_is i) (inode v x))));
    left = λ x place other lost. ap (λ (es : List Extent). disk_at es place) (other_map x other ∙ ((one x).1 (in_touched x lost)).2)
        ∙ left_at ds (extents v) (extents v ino) moved.left moved.linked displaced x place moved.moves;
    others = λ i other kept. (
        let its = (one i).0 (λ is. (let never : true ≡ false = sym (touched_loses i is) ∙ kept in cc)) in
        (other_line i other ∙ its.0, other_chain i other ∙ its.1, other_map i other ∙ its.2));
  }

-- so are the staged runs of a file
pub may_all_move : (g : Geometry) (k : View) (files : Files) (count : ℕ) (numbers : List ℕ) (start : State) (history : List Item) (ino : ℕ) → GoesReady g k files count numbers start history → (inode k.volume ino).kind ≡ File
    → MayAllMove (runs_of k.volume files ino) ino k.volume
may_all_move g k files count numbers start history ino ready file = record {
  sane = (cut_is_world g k files count numbers start history (words_of k.cells) ready.going (IsImage-words_of k.cells)).valid.stands.sane;
  file = file;
  own = λ d is. (run_is d is).1;
  staging = λ x lost. (
      let found = any_found (λ (d : Draft). d.staging == x) (runs_of k.volume files ino) lost in
      sym (kind-sized files.sizes k.volume x) ∙ subst (λ i. (inode (sized files.sizes k.volume) i).kind ≡ Staging) ((Decides-eqb found.0.staging x).0 found.2) (log.staging found.0 (run_is found.0 found.1).0));
  apart = λ d e d_is e_is. log.apart d e (run_is d d_is).0 (run_is e e_is).0;
  last = (inode (sized files.sizes k.volume) ino).applied;
  orders = log.orders ino;
} where
  log : LogStands (sized files.sizes k.volume) (staged_of k.volume files)
  log =
      let live = live_is_world g k files count numbers start history (words_of k.cells) ready.going (IsImage-words_of k.cells) in
      subst (LogStands (sized files.sizes k.volume)) live.1 live.0.valid.stands.log

  run_is : (d : Draft) → In d (runs_of k.volume files ino) → In d (staged_of k.volume files) × (d.ino ≡ ino)
  run_is d is = let its = filter-In (λ (x : Draft). x.ino == ino) (staged_of k.volume files) d is in (its.0, (Decides-eqb d.ino ino).0 its.1)
