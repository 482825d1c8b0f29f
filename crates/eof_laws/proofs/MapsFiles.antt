-- What is kept of files ends with them.
use Rattle.std.specs.Prelude.{◌≡◌, ◌≢◌, ◌⊎◌, ◌≤◌, ◌<◌, ◌+◌, ℕ, zero, suc, List, [], ◌∷◌, ◌++◌, length, slice_index, refl}
use Rattle.std.proofs.Common.{arith, ap, ◌∙◌, sym, subst, inl, inr, get_or}
use Rattle.std.proofs.lemmas.Bool.{cases_eq, cases_lt}
use Rattle.std.proofs.lemmas.List.{get_or-set_other, get_or-set_same, set-get_or}
use Rattle.file_table.specs.block_counts.Counts.{blocks_for}
use Rattle.log_checkpoint.specs.k_plans.image_model.Volume.{Volume}
use Rattle.eof_laws.specs.Ends.{FilesEnd}
use Rattle.file_table.specs.file_overlay.declared.runs.Run.{Run}
use Rattle.file_table.specs.Files.{ChangesFile, Files, runs_in, size_in}
use Rattle.log_checkpoint.specs.k_plans.k_split_model.View.{View}
use Rattle.log_checkpoint.specs.list_laws.Members.{In}
use Rattle.log_checkpoint.specs.Gathers.{AreDone}
use Rattle.log_checkpoint.proofs.staging_files_proofs.GiveUpLaws.{staging-file}
use Rattle.eof_laws.specs.MapsLaws.{EndBegun, EndGathered, EndLaid, EndPublished, EndReserved}
use Rattle.eof_laws.proofs.MapsMaps.{given_up_ends, MapsEnd, preallocated_ends, published_ends}

pub end_begun : EndBegun
end_begun v files short size bare = record {
  maps = λ ino block file behind. short ino file block (subst (λ n. blocks_for n ≤ block) (size ino file) behind);
  runs = λ ino run there. absurd (subst (In run) (bare ino) there);
}

-- ---- sizes that stay

same_sizes : (ino : ℕ) (runs : List Run) (old new : Files) → ChangesFile ino runs (size_in old ino) old new → (i : ℕ) → size_in new i ≡ size_in old i
same_sizes ino runs old new changes i = ap (λ (xs : List ℕ). get_or xs i 0) (changes.sizes ∙ set-get_or old.sizes ino 0)

maps_same : (v : Volume) (old new : Files) → ((i : ℕ) → size_in new i ≡ size_in old i) → MapsEnd v old → MapsEnd v new
maps_same v old new same ends ino block file behind = ends ino block file (subst (λ n. blocks_for n ≤ block) (same ino) behind)

pub end_published : EndPublished
end_published ino k l old new done changes ends = record {
  maps = maps_same l.volume old new same (published_ends ino (runs_in old ino) k l old (λ run there. ends.runs ino run there) done ends.maps);
  runs = λ i run there. by i run there (cases_eq i ino);
} where
  same : (i : ℕ) → size_in new i ≡ size_in old i
  same = same_sizes ino [] old new changes

  by : (i : ℕ) (run : Run) → In run (runs_in new i) → (i ≡ ino) ⊎ (i ≢ ino) → run.file_block + run.count ≤ blocks_for (size_in new i)
  by i run there (inl own) = absurd (subst (In run) (ap (runs_in new) own ∙ changes.runs_are) there)
  by i run there (inr other) =
      subst (λ n. run.file_block + run.count ≤ blocks_for n) (sym (same i)) (ends.runs i run (subst (In run) (changes.others i other) there))

-- ---- a gathering

done_ends : (n : ℕ) (files : Files) (k l : View) → FilesEnd k.volume files → AreDone n files k l → MapsEnd l.volume files
done_ends zero files k l ends same = subst (λ z. MapsEnd z.volume files) (sym same) ends.maps
done_ends (suc n) files k l ends (middle, before, inl line) = published_ends n (runs_in files n) middle l files (λ run there. ends.runs n run there) line.1 (done_ends n files k middle ends before)
done_ends (suc n) files k l ends (middle, before, inr none) = subst (λ z. MapsEnd z.volume files) (sym none.1) (done_ends n files k middle ends before)

pub end_gathered : EndGathered
end_gathered k l staging old new (published, all, lap) ends = record {
  maps = maps_same l.volume old new same based;
  runs = λ i run there. by i run there (cases_lt i (length old.sizes));
} where
  same : (i : ℕ) → size_in new i ≡ size_in old i
  same i = ap (λ (xs : List ℕ). get_or xs i 0) all.table.sizes

  bared : MapsEnd lap.bare.volume old
  bared = given_up_ends 4 published lap.bare old lap.given_up (done_ends (length old.sizes) old k published ends all.done)

  based : MapsEnd l.volume old
  based = subst (λ v. MapsEnd v old) (sym lap.lap.0) bared

  by : (i : ℕ) (run : Run) → In run (runs_in new i) → (i < length old.sizes) ⊎ (length old.sizes ≤ i) → run.file_block + run.count ≤ blocks_for (size_in new i)
  by i run there (inl below) = absurd (subst (In run) (all.table.cleared i below) there)
  by i run there (inr past) =
      subst (λ n. run.file_block + run.count ≤ blocks_for n) (sym (same i)) (ends.runs i run (subst (In run) (all.table.others i past) there))

-- ---- a reserved run

pub end_reserved : EndReserved
end_reserved count k l old new taken files whole (inl first) ends = subst (λ z. FilesEnd z.volume files) (sym first.same) ends
end_reserved count k l old new taken files whole (inr second) ends = record {
  maps = preallocated_ends _ taken.staging _ k.volume l.volume files (staging-file k.volume taken.staging whole second.way.place.staging).kind second.given.1.preallocated ends.maps;
  runs = ends.runs;
}

-- ---- a run that is laid

last_or_before : (xs : List Run) (run other : Run) → In other (xs ++ run ∷ []) → In other xs ⊎ (other ≡ run)
last_or_before [] run other (inl same) = inr (sym same)
last_or_before [] run other (inr none) = absurd none
last_or_before (x ∷ xs) run other (inl same) = inl (inl same)
last_or_before (x ∷ xs) run other (inr behind) = elim (last_or_before xs run other behind) [ inl before ↦ inl (inr before) | inr last ↦ inr last ]

more_blocks : (a b : ℕ) → a ≤ b → blocks_for a ≤ blocks_for b
more_blocks a b le = omega (arith, le)

pub end_laid : EndLaid
end_laid v d run old new line draft_ends longer first count changes ends = record {
  maps = λ ino block file behind. ends.maps ino block file (omega (arith, behind, more_blocks (size_in old ino) (size_in new ino) (grows ino (cases_eq ino d.ino))));
  runs = λ ino other there. by ino other there (cases_eq ino d.ino);
} where
  own_size : size_in new d.ino ≡ d.size
  own_size = ap (λ (xs : List ℕ). slice_index xs d.ino) changes.sizes ∙ get_or-set_same old.sizes d.ino d.size 0 line

  other_size : (i : ℕ) → i ≢ d.ino → size_in new i ≡ size_in old i
  other_size i other = ap (λ (xs : List ℕ). slice_index xs i) changes.sizes ∙ get_or-set_other old.sizes d.ino i d.size 0 other

  grows : (i : ℕ) → (i ≡ d.ino) ⊎ (i ≢ d.ino) → size_in old i ≤ size_in new i
  grows i (inl own) = subst (λ n. size_in old n ≤ size_in new n) (sym own) (omega (arith, longer, own_size))
  grows i (inr other) = omega (arith, other_size i other)

  laid : (other : Run) → In other (runs_in old d.ino) ⊎ (other ≡ run) → other.file_block + other.count ≤ blocks_for (size_in new d.ino)
  laid other (inl before) = omega (arith, ends.runs d.ino other before, more_blocks (size_in old d.ino) (size_in new d.ino) (grows d.ino (inl refl)))
  laid other (inr last) =
      subst (λ (r : Run). r.file_block + r.count ≤ blocks_for (size_in new d.ino)) (sym last)
      (subst (λ n. run.file_block + run.count ≤ blocks_for n) (sym own_size) (omega (arith, draft_ends, first, count)))

  by : (i : ℕ) (other : Run) → In other (runs_in new i) → (i ≡ d.ino) ⊎ (i ≢ d.ino) → other.file_block + other.count ≤ blocks_for (size_in new i)
  by i other there (inl own) =
      subst (λ n. other.file_block + other.count ≤ blocks_for (size_in new n)) (sym own)
      (laid other (last_or_before (runs_in old d.ino) run other (subst (In other) (ap (runs_in new) own ∙ changes.runs_are) there)))
  by i other there (inr apart) =
      subst (λ n. other.file_block + other.count ≤ blocks_for n) (sym (other_size i apart)) (ends.runs i other (subst (In other) (changes.others i apart) there))
