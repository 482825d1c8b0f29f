-- The two Worlds in which the batch is seen.
use Rattle.std.specs.Prelude.{◌≡◌, ◌≢◌, ◌≤◌, ◌<◌, ◌+◌, ◌==◌, ℕ, zero, suc, Bool, true, false, List, [], ◌∷◌, ◌++◌, length, map, filter, Option, Some, None, slice_index, slice_index_or, refl, if◌then◌else◌}
use Rattle.std.specs.List.{flat_map, range_with_len}
use Rattle.std.proofs.Common.{arith, ap, ◌∙◌, sym, subst, inl, inr}
use Rattle.std.proofs.lemmas.Bool.{cases_eq, cases_lt, eq-eqb, ne_eqb}
use Rattle.std.proofs.lemmas.List.{get_or_past}
use Rattle.std.proofs.lemmas.List.Elements.{filter-append}
use Rattle.eof_laws.specs.live_model.layout_model.Journal.{journaled}
use Rattle.eof_laws.specs.live_model.layout_model.Places.{IsGeometry}
use Rattle.eof_laws.specs.live_model.layout_model.declared.lines.Draft.{Draft}
use Rattle.eof_laws.specs.live_model.layout_model.declared.lines.Inode.{Inode}
use Rattle.eof_laws.specs.live_model.layout_model.declared.lines.Kind.TheVariants.{File, Free}
use Rattle.eof_laws.specs.live_model.image_model.Content.{size_by, size_of}
use Rattle.eof_laws.specs.live_model.image_model.Live.{is_live, latest}
use Rattle.eof_laws.specs.live_model.image_model.Volume.{free_inode, inode, Volume}
use Rattle.eof_laws.specs.live_model.file_overlay.declared.runs.Run.{Run}
use Rattle.eof_laws.specs.live_model.file_table.Files.{Files, runs_in, size_in}
use Rattle.eof_laws.specs.live_model.list_laws.Members.{In}
use Rattle.eof_laws.specs.live_model.posix_spec.Run.{run}
use Rattle.eof_laws.specs.live_model.posix_laws.Cuts.{cut_of}
use Rattle.eof_laws.specs.live_model.crash_spec.Posix.{LastBeforeCut}
use Rattle.eof_laws.specs.live_model.world_model.Jobs.{live_claims}
use Rattle.eof_laws.specs.live_model.world_model.Latest.{latest-In}
use Rattle.eof_laws.specs.live_model.world_model.Stands.{entries_of, Stands}
use Rattle.eof_laws.specs.live_model.Overlays.{run_of}
use Rattle.posix_mode_laws.specs.ClaimsLaws.{generation_sized, live_sized}
use Rattle.posix_mode_laws.specs.CutStands.{cut_is_one, cut_left, left_fits}
use Rattle.posix_mode_laws.specs.Sides.{BatchStands, PosixWorld, Same, sized, with_sizes}
use Rattle.posix_mode_laws.specs.Sized.{kind-sized, length-with_sizes}
use Rattle.batch_laws.specs.Standing.{as_claims, draft_of_run, sides_of, staged_of}
use Rattle.batch_laws.specs.Worlds.{CutIsWorld, LiveIsWorld, StagedIsOverlay}

-- ---- entries as claims

drafts_of_claims : (ds : List Draft) → map (λ (c : ℕ × Draft). c.1) (as_claims ds) ≡ ds
drafts_of_claims [] = refl
drafts_of_claims (d ∷ ds) = ap (λ es. d ∷ es) (drafts_of_claims ds)

claim_at : (ds : List Draft) (slot : ℕ) (d : Draft) → In (slot, d) (as_claims ds) → (slot ≡ 0) × In d ds
claim_at [] slot d is = absurd is
claim_at (e ∷ ds) slot d (inl same) = (sym (ap (λ (c : ℕ × Draft). c.0) same), inl (ap (λ (c : ℕ × Draft). c.1) same))
claim_at (e ∷ ds) slot d (inr behind) = let rest = claim_at ds slot d behind in (rest.0, inr rest.1)

-- all pass
filter_whole : (p : Draft → Bool) (ds : List Draft) → ((d : Draft) → In d ds → p d ≡ true) → filter p ds ≡ ds
filter_whole p [] all = refl
filter_whole p (d ∷ ds) all =
    ap (λ (b : Bool). if b then (d ∷ filter p ds) else filter p ds) (all d (inl refl)) ∙ ap (λ es. d ∷ es) (filter_whole p ds (λ e is. all e (inr is)))

-- none passes
filter_none : (p : Draft → Bool) (ds : List Draft) → ((d : Draft) → In d ds → p d ≡ false) → filter p ds ≡ []
filter_none p [] none = refl
filter_none p (d ∷ ds) none = ap (λ (b : Bool). if b then (d ∷ filter p ds) else filter p ds) (none d (inl refl)) ∙ filter_none p ds (λ e is. none e (inr is))

pub live_all : (v : Volume) (lengths : List ℕ) (ds : List Draft) → ((d : Draft) → In d ds → is_live v d ≡ true) → live_claims (sized lengths v) (as_claims ds) ≡ ds
live_all v lengths ds alive = ap (filter (is_live (sized lengths v))) (drafts_of_claims ds) ∙ filter_whole (is_live (sized lengths v)) ds (λ d is. live_sized lengths v d ∙ alive d is)

pub live_is_world : LiveIsWorld
live_is_world g k files count numbers start history image going is_image = (
  record {
    valid = record {
      stands = subst (λ ds. Stands v ds (journaled image) numbers (run start history)) (sym same) (subst (λ h. Stands v staged (journaled image) numbers (run start h)) (sym going.history_is) world.live);
      out = tt;
      fits = going.fits;
      room = omega arith;
    };
    claims_stand = record {
      orders = λ a b d e first second other d_file e_file one. absurd (other ((claim_at staged a d first).0 ∙ sym (claim_at staged b e second).0));
      settled = λ slot d is file. inr (live_sized files.sizes k.volume d ∙ going.alive d (claim_at staged slot d is).1);
    };
    aged = record {
      small = going.aged.small;
      staging = λ d is. kind-sized files.sizes k.volume d.staging ∙ going.aged.staging d is;
      own = going.aged.own;
      taken = λ d is. (let old = going.aged.taken d is in (old.0, (old.1.0, old.1.1, old.1.2 ∙ sym (generation_sized files.sizes k.volume d.ino))));
    };
    shape = record { root = going.shape.root; nodes = going.shape.nodes ∙ sym (length-with_sizes k.volume.inodes files.sizes); names = going.shape.names };
    geometry = subst IsGeometry (sym going.geometry) going.is_geometry;
  },
  same,
) where
  v : Volume
  v = sized files.sizes k.volume

  staged : List Draft
  staged = staged_of k.volume files

  same : live_claims (sized files.sizes k.volume) (as_claims (staged_of k.volume files)) ≡ staged_of k.volume files
  same = live_all k.volume files.sizes (staged_of k.volume files) going.alive

  world : PosixWorld LastBeforeCut (sides_of k files going.old_numbers numbers) (journaled image) start going.front going.later
  world = going.world image is_image

pub cut_is_world : CutIsWorld
cut_is_world g k files count numbers start history image going is_image = record {
  valid = record {
    stands = (cut_is_one (sides_of k files going.old_numbers numbers) (journaled image) (run start history)).0
        (subst (λ h. BatchStands (sides_of k files going.old_numbers numbers) (journaled image) (run start h)) (sym going.history_is) (going.world image is_image).cut);
    out = tt;
    fits = left_fits Same (run start history) (cut_of (run start history)) (cut_left (run start history)) refl going.fits;
    room = omega arith;
  };
  claims_stand = record { orders = λ a b d e first second other d_file e_file one. absurd first; settled = λ slot d is file. absurd is };
  aged = record { small = going.aged.small; staging = λ d is. absurd is; own = λ d is. absurd is; taken = λ d is. absurd is };
  shape = record { root = going.shape.root; nodes = going.shape.nodes; names = going.shape.names };
  geometry = subst IsGeometry (sym going.geometry) going.is_geometry;
}

-- ---- the staged runs of one file

pub of_file : (v : Volume) (files : Files) (ino other : ℕ) (rs : List Run) → other ≢ ino → entries_of ino (map (draft_of_run v files other) rs) ≡ []
of_file v files ino other [] apart = refl
of_file v files ino other (r ∷ rs) apart =
    ap (λ (b : Bool). if b then (draft_of_run v files other r ∷ entries_of ino (map (draft_of_run v files other) rs)) else entries_of ino (map (draft_of_run v files other) rs)) (ne_eqb other ino apart) ∙ of_file v files ino other rs apart

own_file : (v : Volume) (files : Files) (ino : ℕ) (rs : List Run) → entries_of ino (map (draft_of_run v files ino) rs) ≡ map (draft_of_run v files ino) rs
own_file v files ino [] = refl
own_file v files ino (r ∷ rs) =
    ap (λ (b : Bool). if b then (draft_of_run v files ino r ∷ entries_of ino (map (draft_of_run v files ino) rs)) else entries_of ino (map (draft_of_run v files ino) rs)) (eq-eqb ino ino refl)
    ∙ ap (λ es. draft_of_run v files ino r ∷ es) (own_file v files ino rs)

-- of the files from one on
abbrev pub runs_from : Volume → Files → ℕ → ℕ → List Draft
runs_from v files a n = flat_map (λ (ino : ℕ). map (draft_of_run v files ino) (runs_in files ino)) (range_with_len a n)

pub split_first : (v : Volume) (files : Files) (ino a n : ℕ) → entries_of ino (runs_from v files a (suc n)) ≡ entries_of ino (map (draft_of_run v files a) (runs_in files a)) ++ entries_of ino (runs_from v files (a + 1) n)
split_first v files ino a n = filter-append (λ (d : Draft). d.ino == ino) (map (draft_of_run v files a) (runs_in files a)) (runs_from v files (a + 1) n)

before_it : (v : Volume) (files : Files) (ino a n : ℕ) → ino < a → entries_of ino (runs_from v files a n) ≡ []
before_it v files ino a zero low = refl
before_it v files ino a (suc n) low =
    let apart : a ≢ ino = λ same. omega (arith, low, same) in
    split_first v files ino a n ∙ (ap (λ xs. xs ++ entries_of ino (runs_from v files (a + 1) n)) (of_file v files ino a (runs_in files a) apart) ∙ before_it v files ino (a + 1) n (omega (arith, low)))

append_none : (xs : List Draft) → xs ++ [] ≡ xs
append_none [] = refl
append_none (x ∷ xs) = ap (λ ys. x ∷ ys) (append_none xs)

pub at_it : (v : Volume) (files : Files) (ino a n : ℕ) → a ≤ ino → ino < a + n → entries_of ino (runs_from v files a n) ≡ map (draft_of_run v files ino) (runs_in files ino)
at_it v files ino a zero low high = absurd (omega (arith, low, high))
at_it v files ino a (suc n) low high = elim (cases_eq a ino) [
  | inl same ↦
      subst (λ m. entries_of m (runs_from v files a (suc n)) ≡ map (draft_of_run v files m) (runs_in files m)) same
      (split_first v files a a n
      ∙ (ap (λ xs. xs ++ entries_of a (runs_from v files (a + 1) n)) (own_file v files a (runs_in files a))
      ∙ (ap (λ ys. map (draft_of_run v files a) (runs_in files a) ++ ys) (before_it v files a (a + 1) n (omega arith)) ∙ append_none (map (draft_of_run v files a) (runs_in files a)))))
  | inr apart ↦
      split_first v files ino a n
      ∙ (ap (λ xs. xs ++ entries_of ino (runs_from v files (a + 1) n)) (of_file v files ino a (runs_in files a) apart)
      ∙ at_it v files ino (a + 1) n (omega (arith, low, apart)) (omega (arith, high)))
]

runs_again : (v : Volume) (files : Files) (ino : ℕ) (rs : List Run) → map run_of (map (draft_of_run v files ino) rs) ≡ rs
runs_again v files ino [] = refl
runs_again v files ino (r ∷ rs) = ap (λ xs. r ∷ xs) (runs_again v files ino rs)

-- each entry has the length of its file
one_size : (v : Volume) (files : Files) (ino : ℕ) (rs : List Run) (d : Draft) → In d (map (draft_of_run v files ino) rs) → d.size ≡ size_in files ino
one_size v files ino [] d is = absurd is
one_size v files ino (r ∷ rs) d (inl same) = ap (λ (e : Draft). e.size) (sym same)
one_size v files ino (r ∷ rs) d (inr behind) = one_size v files ino rs d behind

-- a size of the list is that of its line
pub line_size : (xs : List Inode) (ns : List ℕ) (i : ℕ) → length ns ≡ length xs → i < length xs → (slice_index_or (with_sizes xs ns) i free_inode).size ≡ slice_index ns i
line_size [] ns i same below = absurd (omega (arith, below))
line_size (x ∷ xs) [] i same below = absurd (omega (arith, same))
line_size (x ∷ xs) (n ∷ ns) zero same below = refl
line_size (x ∷ xs) (n ∷ ns) (suc i) same below = line_size xs ns i (omega (arith, same)) (omega (arith, below))

size_by_runs : (v : Volume) (files : Files) (ino other : ℕ) (rs : List Run) → other ≡ size_in files ino → size_in files ino ≡ size_by (latest (map (draft_of_run v files ino) rs)) other
size_by_runs v files ino other rs line = by (latest (map (draft_of_run v files ino) rs)) refl where
  by : (o : Option Draft) → latest (map (draft_of_run v files ino) rs) ≡ o → size_in files ino ≡ size_by o other
  by None is = sym line
  by (Some d) is = sym (one_size v files ino rs d (latest-In (map (draft_of_run v files ino) rs) d is))

-- of a file of the volume
pub below_files : (v : Volume) (ino : ℕ) → (inode v ino).kind ≡ File → ino < length v.inodes
below_files v ino file = elim (cases_lt ino (length v.inodes)) [
  | inl low ↦ low
  | inr past ↦ (let never : File ≡ Free = sym file ∙ ap (λ (x : Inode). x.kind) (get_or_past v.inodes ino free_inode past) in cc)
]

pub entries_staged : (v : Volume) (files : Files) (ino : ℕ) → length files.sizes ≡ length v.inodes → (inode v ino).kind ≡ File → entries_of ino (staged_of v files) ≡ map (draft_of_run v files ino) (runs_in files ino)
entries_staged v files ino same file =
    let below = below_files v ino file in
    at_it v files ino 0 (length files.sizes) (omega arith) (omega (arith, below, same))

-- THE LENGTH OF A FILE by the staged runs, and by its line where it has none, is the one that is kept.
pub size_of_staged : (v : Volume) (files : Files) (ino : ℕ) → length files.sizes ≡ length v.inodes → (inode v ino).kind ≡ File → size_in files ino ≡ size_of (sized files.sizes v) (staged_of v files) ino
size_of_staged v files ino same file =
    size_by_runs v files ino (inode (sized files.sizes v) ino).size (runs_in files ino) (line_size v.inodes files.sizes ino same (below_files v ino file))
    ∙ ap (λ ds. size_by (latest ds) (inode (sized files.sizes v) ino).size) (sym (entries_staged v files ino same file))

pub staged_is_overlay : StagedIsOverlay
staged_is_overlay g k files count numbers start history going ino file =
    let plain : (inode k.volume ino).kind ≡ File = sym (kind-sized files.sizes k.volume ino) ∙ file in
    record {
      runs_are = sym (ap (map run_of) (entries_staged k.volume files ino going.sizes plain) ∙ runs_again k.volume files ino (runs_in files ino));
      size_is = size_of_staged k.volume files ino going.sizes plain;
    }
