-- Where no entry is valid, the content does not go by what files have applied.
use Rattle.std.proofs.Common.{◌≡◌, ◌∙◌, ◌<◌, ◌/◌, ℕ, List, [], ◌∷◌, length, map, None, Some, refl, sym, ap, arith, inl, inr}
use Rattle.std.specs.Prelude.{option_and_then}
use Rattle.std.specs.List.{filter_map, range_with_len}
use Rattle.std.proofs.Math.Path.{fun_ext}
use Rattle.std.proofs.lemmas.Bool.{cases_eq}
use Rattle.std.proofs.lemmas.List.{get_or-set_other, get_or-set_same}
use Rattle.k_plans.specs.k_tables.list_laws.Filters.{filter-In, filter_map-In, range-In}
use Rattle.k_plans.specs.k_tables.list_laws.Members.{In}
use Rattle.layout_model.specs.pm_model.Words.{Words}
use Rattle.layout_model.specs.declared.lines.Draft.{Draft}
use Rattle.layout_model.specs.declared.lines.Inode.{Inode}
use Rattle.layout_model.specs.Names.{walk}
use Rattle.k_plans.specs.image_model.Content.{byte_in, disk_of, found, node_by, node_of}
use Rattle.k_plans.specs.image_model.Live.{entry_in, is_live, live_entries}
use Rattle.k_plans.specs.image_model.Volume.{Volume, free_inode, inode}
use Rattle.k_map_plans.specs.Resets.{HasNoValid, KeepsContentWithoutEntries, reset, unapplied}

no_members : (ds : List Draft) → ((d : Draft) → In d ds → ⊥) → ds ≡ []
no_members [] none = refl
no_members (d ∷ ds) none = absurd (none d (inl refl))

none_live : (v : Volume) (f : Words) → HasNoValid v f → live_entries v f ≡ []
none_live v f none =
    no_members (live_entries v f) (λ d is.
    let valid = filter-In (is_live v) (filter_map (entry_in v f) (range_with_len 0 v.geometry.log)) d is in
    let from = filter_map-In (entry_in v f) (range_with_len 0 v.geometry.log) d valid.0 in
    let place = range-In 0 v.geometry.log from.0 from.1 in
    let never : None ≡ Some d = sym (none from.0 (omega (arith, place.1))) ∙ from.2 in
    cc)

module _ (ino : ℕ) (v : Volume) (below : ino < length v.inodes) where
  -- what does not go by the entries applied is the same of each inode
  part-same : {T : Type 0} (p : Inode → T) → ((x : Inode) → p (unapplied x) ≡ p x) → (n : ℕ) → p (inode (reset ino v) n) ≡ p (inode v n)
  part-same p same n = elim (cases_eq n ino) [
    | inl here ↦
        let set : inode (reset ino v) ino ≡ unapplied (inode v ino) = get_or-set_same v.inodes ino (unapplied (inode v ino)) free_inode below in
        ap (λ m. p (inode (reset ino v) m)) here ∙ ap p set ∙ same (inode v ino) ∙ ap (λ m. p (inode v m)) (sym here)
    | inr apart ↦ ap p (get_or-set_other v.inodes ino n (unapplied (inode v ino)) free_inode apart)
  ]

  node-same : (f : Words) (n : ℕ) → node_of (reset ino v) [] f n ≡ node_of v [] f n
  unfolding node_of
  node-same f n i =
      node_by (part-same (λ (x : Inode). x.kind) (λ x. refl) n i)
      (map (λ k. byte_in f (disk_of v [] n (k / 4096)) k) (range_with_len 0 (part-same (λ (x : Inode). x.size) (λ x. refl) n i)))

  found-same : (f : Words) (path : List (List ℕ)) → found (reset ino v) [] f path ≡ found v [] f path
  unfolding found
  found-same f path = ap (λ (node : ℕ → _). option_and_then node (walk v.names 0 path)) (fun_ext (node-same f))

pub reset-content : KeepsContentWithoutEntries
reset-content ino v f path below none =
    ap (λ (ds : List Draft). found (reset ino v) ds f path) (none_live (reset ino v) f none)
    ∙ found-same ino v below f path
    ∙ sym (ap (λ (ds : List Draft). found v ds f path) (none_live v f none))
