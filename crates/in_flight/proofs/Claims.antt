-- The claims of a World that stands together.
use Rattle.std.specs.Prelude.{◌≡◌, ◌≤◌, ◌==◌, ◌&&◌, ℕ, Bool, true, List, [], ◌∷◌, map}
use Rattle.std.proofs.Common.{ap, ◌∙◌, sym, subst, inl, inr}
use Rattle.std.proofs.lemmas.Bool.Decides.{Decides-eqb}
use Rattle.live_model.specs.layout_model.declared.lines.Draft.{Draft}
use Rattle.live_model.specs.layout_model.declared.lines.Kind.TheVariants.{File}
use Rattle.live_model.specs.layout_model.Places.{Geometry}
use Rattle.live_model.specs.image_model.Live.{is_file, is_live, is_of_file}
use Rattle.live_model.specs.image_model.Volume.{inode}
use Rattle.live_model.specs.file_table.Files.{runs_in}
use Rattle.live_model.specs.k_split_model.View.{View}
use Rattle.live_model.specs.commute_laws.list_laws.Filters.{In-filter}
use Rattle.live_model.specs.commute_laws.list_laws.Members.{In}
use Rattle.live_model.specs.Overlays.{run_of}
use Rattle.live_model.specs.commute_laws.posix_tables.Open.{Tables}
use Rattle.live_model.specs.commute_laws.posix_spec.State.{State}
use Rattle.live_model.specs.world_model.Jobs.{live_claims}
use Rattle.live_model.specs.world_model.Stands.{entries_of}
use Rattle.live_model.specs.Standing.{Kept, StandsAt}
use Rattle.in_flight.proofs.CountsJobs.{world_now}

entry_of : (claims : List (ℕ × Draft)) (slot : ℕ) (d : Draft) → In (slot, d) claims → In d (map (λ (c : ℕ × Draft). c.1) claims)
entry_of [] slot d is = absurd is
entry_of (c ∷ claims) slot d (inl same) = inl (ap (λ (x : ℕ × Draft). x.1) same)
entry_of (c ∷ claims) slot d (inr rest) = inr (entry_of claims slot d rest)

none_mapped : (ds : List Draft) (d : Draft) → map run_of ds ≡ [] → In d ds → ⊥
none_mapped [] d none is = is
none_mapped (x ∷ ds) d none is = cc

module _ (g : Geometry) (k : View) (t : Tables) (kept : Kept) (lines : Bool) (n : ℕ) (s : State) (stands : StandsAt g k t kept lines n s) where
  -- OF A FILE OF WHICH NOTHING IS STAGED each claim of the lap is applied.
  pub claims_applied : (ino slot : ℕ) (d : Draft) → (inode k.volume ino).kind ≡ File → runs_in kept.files ino ≡ [] → In (slot, d) kept.claims → d.ino ≡ ino → d.generation ≡ (inode k.volume ino).generation
      → d.order ≤ (inode k.volume ino).applied
  claims_applied ino slot d file none there own generation =
      subst (λ i. d.order ≤ (inode k.volume i).applied) own
      (elim ((world_now g k t kept lines n s stands).claims_stand.settled slot d there of_file) [
        | inl applied ↦ applied
        | inr live ↦ absurd (none_mapped (entries_of ino (live_claims k.volume kept.claims)) d
            (sym (stands.flying.overlays ino file).runs_are ∙ none)
            (In-filter (λ (x : Draft). x.ino == ino) (live_claims k.volume kept.claims) d
            (In-filter (is_live k.volume) (map (λ (c : ℕ × Draft). c.1) kept.claims) d (entry_of kept.claims slot d there) live) ((Decides-eqb d.ino ino).1 own)))
      ]) where
        kind : is_file (inode k.volume d.ino).kind ≡ true
        kind = ap (λ i. is_file (inode k.volume i).kind) own ∙ ap is_file file

        age : ((inode k.volume d.ino).generation == d.generation) ≡ true
        age = (Decides-eqb (inode k.volume d.ino).generation d.generation).1 (ap (λ i. (inode k.volume i).generation) own ∙ sym generation)

        of_file : is_of_file k.volume d ≡ true
        of_file = (λ i. kind i && age i)
