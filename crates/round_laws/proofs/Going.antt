-- The World at its beginning goes on.
use Rattle.std.specs.Prelude.{◌≢◌, ◌≡◌, ◌≤◌, ◌+◌, ◌-◌, ◌*◌, ◌/◌, ◌^◌, ℕ, true, false, List, [], refl}
use Rattle.std.proofs.Common.{arith, ap, ◌∙◌, sym, subst, inl, inr}
use Rattle.std.proofs.lemmas.Bool.{both_ways, cases_lt}
use Rattle.std.proofs.lemmas.List.{get_or-replicate}
use Rattle.world_view_laws.specs.eof_laws.pm_model.Bytes.{line_bytes-same}
use Rattle.world_view_laws.specs.eof_laws.pm_model.CellLaws.{single-home}
use Rattle.world_view_laws.specs.eof_laws.pm_model.Cells.{AllHome, cell, is_lent}
use Rattle.world_view_laws.specs.eof_laws.pm_model.ImageLaws.{IsImage-words_of}
use Rattle.world_view_laws.specs.eof_laws.pm_model.Images.{words_of}
use Rattle.world_view_laws.specs.eof_laws.pm_model.Words.{line_bytes, Words}
use Rattle.world_view_laws.specs.eof_laws.layout_model.declared.lines.Kind.TheVariants.{File}
use Rattle.world_view_laws.specs.eof_laws.layout_model.Entries.{held_seq, is_self_valid}
use Rattle.world_view_laws.specs.eof_laws.layout_model.Journal.{IsSound, journaled}
use Rattle.world_view_laws.specs.eof_laws.layout_model.PlaceLaws.{behind_log-not_journaled, behind_log-words}
use Rattle.world_view_laws.specs.eof_laws.layout_model.Places.{Geometry, log_line}
use Rattle.world_view_laws.specs.eof_laws.image_model.Checked.{IsCheckedAs}
use Rattle.world_view_laws.specs.eof_laws.image_model.Content.{content}
use Rattle.world_view_laws.specs.eof_laws.image_model.Volume.{inode, Volume, volume}
use Rattle.world_view_laws.specs.posix_laws.Starts.{start-rising}
use Rattle.world_view_laws.specs.posix_laws.UnfinishedLaws.{AreUnfinished-none}
use Rattle.world_view_laws.specs.eof_laws.file_table.Files.{Files}
use Rattle.world_view_laws.proofs.file_publish_proofs.staging_files_proofs.GiveUpLaws.{staged-nothing}
use Rattle.world_view_laws.proofs.file_publish_proofs.staging_files_proofs.StagedLaws.{free-given}
use Rattle.world_view_laws.specs.file_publish.staging_files.GivesUp.{nothing_staged}
use Rattle.world_view_laws.specs.file_publish.staging_files.Keeps.{Agrees, AreFreeSingle, is_kept_free, IsStaging}
use Rattle.world_view_laws.specs.eof_laws.k_split_model.View.{View}
use Rattle.log_replay.specs.Mounts.{IsMounted}
use Rattle.world_view_laws.specs.eof_laws.MapsLaws.{EndBegun}
use Rattle.world_view_laws.proofs.open_files_proofs.Changes.{nothing_is_open}
use Rattle.world_view_laws.specs.eof_laws.posix_spec.Tree.{bare, start}
use Rattle.world_view_laws.specs.eof_laws.posix_types.declared.call.Mode.{Mode}
use Rattle.world_view_laws.specs.eof_laws.posix_types.declared.reply.Shape.{Shape}
use Rattle.world_view_laws.specs.eof_laws.posix_types.declared.tree.TreeEntry.{TreeEntry}
use Rattle.world_view_laws.specs.eof_laws.posix_types.Scripts.{Scripts}
use Rattle.world_view_laws.specs.eof_laws.posix_tables.Lookups.{AreDistinct}
use Rattle.world_view_laws.specs.eof_laws.posix_tables.Open.{is_open, nothing_open}
use Rattle.world_view_laws.specs.Views.{AreCounted, IsGoing, IsWorldOver, kept_of}
use Rattle.world_view_laws.specs.world_image_laws.Changed.{sound_headed}
use Rattle.world_view_laws.specs.world_image_laws.Images.{HasOldLines, IsRunning}
use Rattle.world_view_laws.specs.world_image_laws.Starts.{begins_running, has_setting}
use Rattle.world_view_laws.specs.live_model.world_model.HeldLaws.{AreSizes}
use Rattle.world_view_laws.specs.live_model.Standing.{StandsAt}
use Rattle.world_view_laws.specs.live_model.world_image_laws.Begun.{numbers_of}
use Rattle.world_view_laws.specs.live_model.world_model.Stands.{number}
use Rattle.world_view_laws.specs.eof_laws.volume_laws.ImageLaws.{journaled-other}
use Rattle.round_laws.proofs.StartsLines.{size_is, stands_at_rest}
use Rattle.round_laws.proofs.Trees.{fold_tables, shape_of, shown_tree}
use Rattle.round_laws.specs.StartsLaws.{first_view, MayStart, StartsGoing}
use Rattle.round_laws.specs.Sizes.{HasSizesOf}

-- ---- nothing staged

none_given : (x b : ℕ) → IsStaging x → is_kept_free nothing_staged x b ≡ true → ⊥
none_given x b is free = omega (arith, free-given nothing_staged x b free, get_or-replicate {A = ℕ} 4 (x - 1) 0 0 (omega (arith, is.least, is.most)))

-- the log's base is that of a next lap
module _ (g : Geometry) (image : Words) (k : View) (mounted : IsMounted g image k) where
  pub same_places : k.volume.geometry ≡ g
  same_places = mounted.checked.reads.geometry ∙ mounted.numbers

  pub low_base : k.volume.base ≤ 2 ^ 62 + g.log
  unfolding volume
  low_base =
      let v : Volume = volume g (journaled image) in
      elim (cases_lt (2 ^ 62) v.base) [
        | inl above ↦ (let one : k.volume.base ≡ 1 = mounted.base.anew above in omega arith)
        | inr below ↦ (let next : k.volume.base ≡ v.base + g.log = mounted.base.risen below in omega arith)
      ]

module _ (ending : EndBegun) (g : Geometry) (image : Words) (k : View) (t : List TreeEntry) (shape : Shape) (mode : Mode) (scripts : Scripts) (files : Files)
    (may : MayStart g image k t shape mode scripts) (table : HasSizesOf k.volume files) where
  same : k.volume.geometry ≡ g
  same = same_places g image k may.mounted

  -- K-SPLIT RUNS with the state of the tree.
  running : IsRunning k.volume k.cells [] (numbers_of k.volume t) (start t shape mode) 0
  running =
      (begins_running k.volume k.cells t shape mode (stands_at_rest k may.mounted.rest) may.mounted.rest.single
      (subst (λ (x : Geometry). IsCheckedAs (4096 * x.blocks) (words_of k.cells) k.volume) (sym same) may.mounted.checked) (may.mounted.numbers ∙ sym same) may.mounted.rest.order.whole.kept.geometry may.mounted.named may.mounted.no_entry
      (shape_of k.volume.geometry shape may.shown.shape_is) (shown_tree (content k.volume.geometry (words_of k.cells)) t may.shown.tree_is)).0

  all_home : AllHome k.cells
  all_home i = single-home (cell k.cells i) (may.mounted.rest.single i)

  distinct : AreDistinct (start t shape mode).entries
  distinct = (running.device.world (words_of k.cells) (IsImage-words_of k.cells)).valid.stands.names.distinct

  sizes : AreSizes k.volume [] files.sizes
  sizes = record {
    count = table.count;
    files = λ ino file. table.sizes ino;
    others = λ ino other. table.sizes ino ∙ (size_is k may.mounted.rest ino).none other;
  }

  agrees : Agrees nothing_staged k
  agrees = record {
    free = λ x b at free. absurd (none_given x b at free);
    empty = λ x at empty. may.mounted.bare x at;
  }

  none_free : AreFreeSingle nothing_staged k
  none_free x b at free = absurd (none_given x b at free)

  none_open : (ino : ℕ) → is_open nothing_open ino ≡ true → (inode k.volume ino).kind ≡ File
  none_open ino there = cc

  -- ALL STANDS TOGETHER.
  stands : StandsAt k.volume.geometry k nothing_open (kept_of (first_view k files t shape mode scripts) nothing_staged files) false 0 (start t shape mode)
  stands = record {
    count = 0;
    few = omega arith;
    numbers = numbers_of k.volume t;
    jobs = [];
    jobs_are = tt;
    order = may.mounted.rest.order;
    unbatched = may.mounted.rest.unbatched;
    on = may.mounted.rest.on;
    geometry = refl;
    flying = record {
      device = running.device;
      whole = λ strict. tt;
      out = λ j at. absurd at;
      home = λ i lent. absurd (both_ways (is_lent (cell k.cells i)) (all_home i) lent);
      overlays = λ ino file. record { runs_are = table.runs ino; size_is = table.sizes ino };
    };
    lines = (refl, running.log);
    quiet = λ i journal line not_lent. may.mounted.rest.single i;
    blocks = λ p at. absurd at;
    callers = λ i j d before below. absurd (omega (arith, below));
    spare = λ p at. absurd at;
    tables = fold_tables (bare shape mode) t ∙ sym (nothing_is_open (number (numbers_of k.volume t)));
    open_are_files = none_open;
    ordered = (distinct, start-rising t shape mode distinct);
    sizes = sizes;
    bare = λ ino other. table.runs ino;
    staged = staged-nothing;
    agrees = agrees;
    free_single = none_free;
    drafts = λ d at. absurd at;
    low = λ ino. (let low = may.mounted.low ino in omega (arith, low));
    claims_out = λ d at. absurd at;
    jobs_out = λ p at. absurd at;
    owed = omega arith;
  }

  -- each entry in the log is one of an earlier lap
  sound : IsSound k.volume.geometry (words_of k.cells)
  sound = sound_headed k.volume.geometry (words_of k.cells) (running.device.headed (words_of k.cells) (IsImage-words_of k.cells))

  seen : (slot : ℕ) → line_bytes (words_of k.cells) (log_line k.volume.geometry slot) ≡ line_bytes (journaled (words_of k.cells)) (log_line k.volume.geometry slot)
  seen slot = line_bytes-same (words_of k.cells) (journaled (words_of k.cells)) (log_line k.volume.geometry slot) (λ i at.
      sym (journaled-other k.volume.geometry (words_of k.cells) i sound (behind_log-words k.volume.geometry i (omega (arith, at))) (behind_log-not_journaled k.volume.geometry (i / 8) (omega (arith, at)))))

  old : HasOldLines k.volume (words_of k.cells)
  old slot below valid =
      let was = may.mounted.old_lines slot below (ap is_self_valid (sym (seen slot)) ∙ valid) in
      omega (arith, was, ap held_seq (seen slot))

  not_posix : (start t shape mode).mode ≢ Mode.Posix
  not_posix posix = may.mode_is (sym (has_setting t shape mode).1 ∙ posix)

  going : IsGoing k nothing_open nothing_staged files (first_view k files t shape mode scripts)
  going = record {
    stands = λ other. stands;
    gathers = λ posix. absurd (not_posix posix);
    waits = λ posix. absurd (not_posix posix);
    counted = λ mode. refl;
    runs = λ settled. refl;
    bare = λ goes none. refl;
    none_unfinished = refl;
    none_home = refl;
    base = refl;
    spelled = λ slot d at. absurd at;
    ends = ending k.volume files may.mounted.short (λ ino file. table.sizes ino) table.runs;
    drafts_end = λ p at. absurd at;
    log_home = λ home. record { home = all_home; none = refl; old = old };
  }

  counted : AreCounted (first_view k files t shape mode scripts)
  counted = record {
    settled = omega arith;
    fresh = λ over. refl;
    out = omega arith;
    claimed = λ on some. absurd (some refl);
    late = λ over. absurd (over refl);
    acts = omega arith;
    acts_on = λ on. omega arith;
    acts_going = λ on over. omega arith;
    low = (let base : k.volume.base ≤ 2 ^ 62 + k.volume.geometry.log = subst (λ (h : Geometry). k.volume.base ≤ 2 ^ 62 + h.log) (sym same) (low_base g image k may.mounted) in omega (arith, base));
  }

  -- THE WORLD GOES ON.
  pub starts : IsWorldOver k nothing_open nothing_staged files (first_view k files t shape mode scripts)
  starts = record {
    mode = not_posix;
    few = may.limits.few;
    threads = may.limits.threads;
    spelled = may.limits.spelled;
    legal = tt;
    scripted = tt;
    open_calls = AreUnfinished-none scripts [];
    counted = counted;
    disk_is = refl;
    going = λ on. going;
    gone = λ off. (let never : true ≡ false = sym off in cc);
  }

pub starts_going : EndBegun → StartsGoing
starts_going ending g image k t shape mode scripts files may table = starts ending g image k t shape mode scripts files may table
