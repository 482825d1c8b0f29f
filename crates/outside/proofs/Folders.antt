-- The folders of names, worked by hand: of a bare name, one in a folder, one in folders of the root, and one in the root.
use Rattle.std.specs.Prelude.{◌≡◌, codes, refl}
use Rattle.std.specs.Path.{path_parent, rsplit_once, split_last_component, trim_trailing}
use Rattle.outside.specs.Replace.{folder_of_lem}

pub bare : folder_of_lem (codes "a") ≡ codes "."
unfolding path_parent rsplit_once split_last_component trim_trailing
bare = refl

pub in_a_folder : folder_of_lem (codes "b/a") ≡ codes "b"
unfolding path_parent rsplit_once split_last_component trim_trailing
in_a_folder = refl

pub in_folders : folder_of_lem (codes "/b/c/a") ≡ codes "/b/c"
unfolding path_parent rsplit_once split_last_component trim_trailing
in_folders = refl

pub in_the_root : folder_of_lem (codes "/a") ≡ codes "/"
unfolding path_parent rsplit_once split_last_component trim_trailing
in_the_root = refl
