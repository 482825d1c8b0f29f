-- One image after the other that shows what the first did.
use Rattle.std.proofs.Common.{◌≡◌, List, sym, subst, ◌∙◌}
use Rattle.world_image_laws.specs.pm_model.declared.Cell.{Cell}
use Rattle.world_image_laws.specs.pm_model.Cells.{AllSingle}
use Rattle.world_image_laws.specs.pm_model.ImageLaws.{image-single}
use Rattle.world_image_laws.specs.pm_model.Images.{Follows, words_of}
use Rattle.world_image_laws.specs.pm_model.Words.{Words}
use Rattle.world_image_laws.specs.layout_model.Places.{Geometry}
use Rattle.log_replay.specs.Sheds.{StaysShown, StillShows}

pub still-then : (g : Geometry) (a b c : Words) → StillShows g a b → StillShows g b c → StillShows g a c
still-then g a b c first second = record {
  numbers = second.numbers;
  checked = second.checked;
  same = λ path. second.same path ∙ first.same path;
}

-- all images of a device, and so the honest ones
pub shown-follows : (g : Geometry) (a d : List Cell) → AllSingle a → Follows (StillShows g) a d → StaysShown g (words_of a) d
shown-follows g a d single images image is honest =
    let from = images image is in
    subst (λ before. StillShows g before image) (image-single a from.0 single from.1.is_image) from.2

-- those of a device that changed after it showed the same
pub shown-then : (g h : Geometry) (a b : Words) (d : List Cell) → h ≡ g → StillShows g a b → StaysShown h b d → StaysShown g a d
shown-then g h a b d same first shown image is honest =
    still-then g a b image first (subst (λ x. StaysShown x b d) same shown image is honest)

-- a device of which each word has one candidate
pub shown-single : (g : Geometry) (a : Words) (d : List Cell) → AllSingle d → StillShows g a (words_of d) → StaysShown g a d
shown-single g a d single is image image_is honest = subst (StillShows g a) (sym (image-single d image single image_is)) is
