-- The run of an entry is laid: what is kept of files.
use Rattle.std.proofs.Common.{◌≡◌, ◌≢◌, ◌<◌, ◌==◌, ◌++◌, ◌∷◌, [], ℕ, Bool, true, false, List, length, refl, arith, ap, ◌∙◌, sym, subst}
use Rattle.std.specs.Prelude.{if◌then◌else◌, slice_index}
use Rattle.std.proofs.lemmas.Bool.{eqb-true}
use Rattle.std.proofs.lemmas.List.{get_or-set_other, get_or-set_same, length-set}
use Rattle.layout_model.specs.declared.lines.Draft.{Draft}
use Rattle.layout_model.specs.declared.lines.Kind.TheVariants.{File}
use Rattle.in_place.specs.live_model.write_jobs.world_image_laws.image_model.Volume.{inode, Volume}
use Rattle.in_place.specs.write_plan.file_table.Files.{ChangesFile, Files, runs_in, size_in}
use Rattle.in_place.specs.live_model.world_model.HeldLaws.{AreSizes}
use Rattle.in_place.specs.live_model.Overlays.{IsOverlayOf, run_of}
use Rattle.in_place.specs.live_model.Flying.{AreOverlays, FileState, with_entry}
use Rattle.in_place.specs.live_model.Standing.{file_state}

module _ (d : Draft) (old new : Files) (changes : ChangesFile d.ino (runs_in old d.ino ++ run_of d ∷ []) d.size old new) (below : d.ino < length old.sizes) where
  own_size : size_in new d.ino ≡ d.size
  own_size = ap (λ xs. slice_index xs d.ino) changes.sizes ∙ get_or-set_same old.sizes d.ino d.size 0 below

  other_size : (ino : ℕ) → ino ≢ d.ino → size_in new ino ≡ size_in old ino
  other_size ino other = ap (λ xs. slice_index xs ino) changes.sizes ∙ get_or-set_other old.sizes d.ino ino d.size 0 other

  abbrev laid_state : FileState
  laid_state = record { runs = runs_in old d.ino ++ run_of d ∷ []; size = d.size }

  own_state : file_state new d.ino ≡ laid_state
  own_state = λ i. record { runs = changes.runs_are i; size = own_size i }

  other_state : (ino : ℕ) → ino ≢ d.ino → file_state new ino ≡ file_state old ino
  other_state ino other = λ i. record { runs = changes.others ino other i; size = other_size ino other i }

  -- the table has what the entry adds
  pub state_is : (ino : ℕ) → file_state new ino ≡ with_entry (file_state old) d ino
  state_is ino = by (ino == d.ino) refl where
    by : (b : Bool) → (ino == d.ino) ≡ b → file_state new ino ≡ (if b then (record { runs = (file_state old ino).runs ++ run_of d ∷ []; size = d.size }) else file_state old ino)
    by true is =
        let same = eqb-true ino d.ino is in
        subst (λ n. file_state new n ≡ record { runs = (file_state old n).runs ++ run_of d ∷ []; size = d.size }) (sym same) own_state
    by false is = other_state ino (λ same. let test : (ino == d.ino) ≡ true = ap (λ n. n == d.ino) same ∙ own_test in cc) where
      own_test : (d.ino == d.ino) ≡ true
      own_test = grind arith

  module _ (v : Volume) (live : List Draft) (overlays : AreOverlays v live (with_entry (file_state old) d)) where
    pub overlays_are : AreOverlays v live (file_state new)
    overlays_are ino file = subst (λ (x : FileState). IsOverlayOf v live ino x.runs x.size) (sym (state_is ino)) (overlays ino file)

    module _ (is_file : (inode v d.ino).kind ≡ File) where
      beside : (ino : ℕ) → (inode v ino).kind ≢ File → ino ≢ d.ino
      beside ino none same = none (ap (λ n. (inode v n).kind) same ∙ is_file)

      pub sizes_are : (before : List Draft) → AreSizes v before old.sizes → AreSizes v live new.sizes
      sizes_are before sizes = record {
        count = ap length changes.sizes ∙ length-set old.sizes d.ino d.size ∙ sizes.count;
        files = λ ino file. (overlays_are ino file).size_is;
        others = λ ino none. other_size ino (beside ino none) ∙ sizes.others ino none;
      }

      pub bare_still : ((ino : ℕ) → (inode v ino).kind ≢ File → runs_in old ino ≡ []) → (ino : ℕ) → (inode v ino).kind ≢ File → runs_in new ino ≡ []
      bare_still bare ino none = changes.others ino (beside ino none) ∙ bare ino none
