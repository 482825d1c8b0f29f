-- A mounted device runs: each word has one candidate, its image is checked, and no entry is in its log.
use Rattle.std.specs.Prelude.{◌≡◌, ◌≤◌, ◌<◌, ℕ, ◌+◌, Bool, true, false, cond, fold, List, [], ◌∷◌, None, Some, refl}
use Rattle.std.specs.List.{filter_map, range_with_len}
use Rattle.std.proofs.Common.{arith, ap, ◌∙◌, sym, subst, inl}
use Rattle.image_laws.specs.pm_model.ImageLaws.{image-single}
use Rattle.image_laws.specs.pm_model.Images.{IsImage, words_of}
use Rattle.image_laws.specs.pm_model.Words.{Words}
use Rattle.image_laws.specs.layout_model.Journal.{journaled}
use Rattle.image_laws.specs.layout_model.Places.{data_blocks, reserve}
use Rattle.image_laws.specs.layout_model.declared.lines.Draft.{Draft}
use Rattle.image_laws.specs.image_model.Content.{content, found}
use Rattle.image_laws.specs.image_model.Live.{entry_in, is_live, live_entries}
use Rattle.image_laws.specs.image_model.Reading.{Reads}
use Rattle.image_laws.specs.image_model.Room.{held_after_recovery}
use Rattle.image_laws.specs.image_model.Rules.{IsOfNoLater}
use Rattle.image_laws.specs.image_model.Volume.{Volume}
use Rattle.image_laws.specs.volume_laws.FootprintLaws.{content-own}
use Rattle.world_step_laws.specs.world_model.posix_types.declared.reply.Shape.{Shape}
use Rattle.world_step_laws.specs.world_model.posix_types.declared.tree.TreeEntry.{TreeEntry}
use Rattle.world_step_laws.specs.world_model.posix_tables.Names.{is_root}
use Rattle.world_step_laws.specs.world_model.posix_tables.Places.{node_of}
use Rattle.world_step_laws.specs.world_model.posix_spec.State.{made, State}
use Rattle.world_step_laws.specs.world_model.posix_spec.Tree.{bare, planted, start}
use Rattle.world_step_laws.specs.world_model.list_laws.Filters.{filter-In, filter_map-In, range-In}
use Rattle.world_step_laws.specs.world_model.list_laws.Members.{In}
use Rattle.world_step_laws.specs.world_model.Shown.{IsTreeOfContent}
use Rattle.world_image_laws.specs.Beginnings.{begins, mounts}
use Rattle.world_image_laws.specs.Begun.{numbers_of}
use Rattle.world_image_laws.specs.BeginningLaws.{Begins}
use Rattle.world_step_laws.specs.Worlds.{IsWorld}
use Rattle.world_image_laws.specs.Images.{HasNoEntry, IsHeaded, IsRunning, ShowsLog}
use Rattle.world_image_laws.specs.ImagesLaws.{BeginsRunning, HasSetting}
use Rattle.world_image_laws.specs.Settings.{KeepsSetting}

-- ---- no entry

no_members : (ds : List Draft) → ((d : Draft) → In d ds → ⊥) → ds ≡ []
no_members [] none = refl
no_members (d ∷ ds) none = absurd (none d (inl refl))

none_live : (v : Volume) (f : Words) → HasNoEntry v f → live_entries v f ≡ []
none_live v f none = no_members (live_entries v f) (λ d is.
    let valid = filter-In (is_live v) (filter_map (entry_in v f) (range_with_len 0 v.geometry.log)) d is in
    let from = filter_map-In (entry_in v f) (range_with_len 0 v.geometry.log) d valid.0 in
    let place = range-In 0 v.geometry.log from.0 from.1 in
    let never : None ≡ Some d = sym (none from.0 (omega (arith, place.1))) ∙ from.2 in
    cc)

no_claim : (v : Volume) (f : Words) → HasNoEntry v f → ((slot : ℕ) → slot < v.geometry.log → IsOfNoLater v f slot) → ShowsLog v [] f
no_claim v f none no_later = record {
  shows = λ slot d. (λ is. absurd is, λ there. let never : None ≡ Some d = sym (none slot there.0) ∙ there.1 in cc);
  no_later = no_later;
}

-- ---- the state that a tree begins as

planted_setting : (s : State) (e : TreeEntry) → KeepsSetting s (planted s e)
unfolding made
planted_setting s e = by (is_root e.path) where
  by : (b : Bool) → KeepsSetting s (cond b s (made s e.path (node_of e.node)))
  by true = record { shape = refl; mode = refl }
  by false = record { shape = refl; mode = refl }

fold_setting : (s : State) (es : List TreeEntry) → KeepsSetting s (fold planted s es)
fold_setting s [] = record { shape = refl; mode = refl }
fold_setting s (e ∷ es) =
    let first = planted_setting s e in
    let rest = fold_setting (planted s e) es in
    record { shape = rest.shape ∙ first.shape; mode = rest.mode ∙ first.mode }

pub has_setting : HasSetting
has_setting t shape mode = let keeps = fold_setting (bare shape mode) t in (keeps.shape, keeps.mode)

-- ---- the beginning

-- THE WORLD RUNS after a mount.
pub begins_running : BeginsRunning
begins_running v d t shape mode stands single checked said geometry named none same_shape tree_is = (running, started.tree_is) where
  f : Words
  f = journaled (words_of d)

  reads : Reads v.geometry f v
  reads = subst (λ g. Reads g f v) said checked.reads

  content_is : content v.geometry (words_of d) ≡ found v [] f
  content_is = content-own v.geometry v f reads ∙ ap (λ live. found v live f) (none_live v f none)

  held : held_after_recovery v [] + reserve v.geometry ≤ data_blocks v.geometry
  held = subst (λ live. held_after_recovery v live + reserve v.geometry ≤ data_blocks v.geometry) (none_live v f none) checked.log.recovers.held

  started : Begins v f t (start t shape mode)
  started = begins v f t shape mode (mounts v.geometry f v reads checked.kept geometry named) geometry same_shape (subst (λ c. IsTreeOfContent c t) content_is tree_is) held

  is_one : (image : Words) → IsImage d image → image ≡ words_of d
  is_one image is = image-single d image single is

  running : IsRunning v d [] (numbers_of v t) (start t shape mode) 0
  running = record {
    device = record {
      stands = stands;
      headed = λ image is. subst (IsHeaded v.geometry) (sym (is_one image is)) (record { head = checked.head; geometry = said });
      world = λ image is. subst (λ x. IsWorld v [] [] (journaled x) (numbers_of v t) (start t shape mode) 0) (sym (is_one image is)) started.world;
      room = record {
        free = omega (arith, checked.log.recovers.unused);
        blocks = ap (λ (x : Shape). x.data_blocks) (has_setting t shape mode).0 ∙ same_shape.blocks;
      };
    };
    log = λ image is. subst (λ x. ShowsLog v [] (journaled x)) (sym (is_one image is)) (no_claim v f none checked.log.no_later);
  }
