-- The live entries of files that a step does not touch.
use Rattle.std.specs.Prelude.{◌≡◌, ◌≢◌, ◌⊎◌, ◌≤◌, ℕ, Bool, true, false, ◌==◌, ◌&&◌, nat_lt, List, [], ◌∷◌, filter, length, map, Option, Some, None, cond, refl}
use Rattle.std.proofs.Common.{arith, ap, ◌∙◌, sym, inl, inr}
use Rattle.std.proofs.lemmas.Bool.{cases_eq}
use Rattle.std.proofs.lemmas.Bool.Decides.{Decides-eqb}
use Rattle.k_split_laws.specs.layout_model.declared.lines.Draft.{Draft}
use Rattle.k_split_laws.specs.layout_model.declared.lines.Kind.TheVariants.{Staging}
use Rattle.k_split_laws.specs.image_model.Live.{is_file, is_live}
use Rattle.k_split_laws.specs.image_model.Volume.{inode, Volume}
use Rattle.k_split_laws.specs.list_laws.Members.{In}
use Rattle.k_split_laws.specs.world_model.Jobs.{live_claims}
use Rattle.k_split_laws.specs.world_model.Stands.{entries_of}
use Rattle.k_split_laws.specs.Going.{LeavesFiles}

-- whether it is this one
pub decide : (o : Option ℕ) (i : ℕ) → (o ≡ Some i) ⊎ (o ≢ Some i)
decide None i = inr (λ same. cc)
decide (Some t) i = elim (cases_eq t i) [ inl same ↦ inl (ap Some same) | inr other ↦ inr (λ same. other cc) ]

-- entries of a file agree where they are live alike
agree : (p q : Draft → Bool) (ino : ℕ) (ds : List Draft) → ((d : Draft) → In d ds → d.ino ≡ ino → p d ≡ q d) → entries_of ino (filter p ds) ≡ entries_of ino (filter q ds)
agree p q ino [] same = refl
agree p q ino (x ∷ ds) same = by (x.ino == ino) refl (p x) refl (q x) refl (agree p q ino ds (λ d is. same d (inr is))) where
  kept : (b c : Bool) (ys : List Draft) → (x.ino == ino) ≡ b → entries_of ino (cond c (x ∷ ys) ys) ≡ cond (c && b) (x ∷ entries_of ino ys) (entries_of ino ys)
  kept true true ys is = ap (λ t. cond t (x ∷ entries_of ino ys) (entries_of ino ys)) is
  kept false true ys is = ap (λ t. cond t (x ∷ entries_of ino ys) (entries_of ino ys)) is
  kept true false ys is = refl
  kept false false ys is = refl

  by : (b : Bool) → (x.ino == ino) ≡ b → (c : Bool) → p x ≡ c → (e : Bool) → q x ≡ e → entries_of ino (filter p ds) ≡ entries_of ino (filter q ds)
      → entries_of ino (cond (p x) (x ∷ filter p ds) (filter p ds)) ≡ entries_of ino (cond (q x) (x ∷ filter q ds) (filter q ds))
  by true is c pis e qis rest =
      let alike : p x ≡ q x = same x (inl refl) ((Decides-eqb x.ino ino).0 is) in
      ap (λ t. entries_of ino (cond t (x ∷ filter p ds) (filter p ds))) alike
      ∙ (kept true (q x) (filter p ds) is ∙ ap (λ es. cond (q x && true) (x ∷ es) es) rest ∙ sym (kept true (q x) (filter q ds) is))
  by false is c pis e qis rest =
      kept false (p x) (filter p ds) is ∙ ap (λ t. cond t (x ∷ entries_of ino (filter p ds)) (entries_of ino (filter p ds))) (none (p x))
      ∙ rest ∙ sym (kept false (q x) (filter q ds) is ∙ ap (λ t. cond t (x ∷ entries_of ino (filter q ds)) (entries_of ino (filter q ds))) (none (q x))) where
        none : (a : Bool) → (a && false) ≡ false
        none true = refl
        none false = refl

live_alike : (v w : Volume) (d : Draft) → inode w d.ino ≡ inode v d.ino → inode w d.staging ≡ inode v d.staging → is_live w d ≡ is_live v d
live_alike v w d own staging =
    λ i. is_file (own i).kind && ((own i).generation == d.generation) && nat_lt (own i).applied d.order && ((staging i).generation == d.staging_generation)

-- A file that the step does not touch has the same live entries.
pub same_entries : (touched : Option ℕ) (v w : Volume) (claims : List (ℕ × Draft)) (ino : ℕ) → LeavesFiles touched v w claims → ((d : Draft) → In d (map (λ (c : ℕ × Draft). c.1) claims) → (inode v d.staging).kind ≡ Staging)
    → touched ≢ Some ino → entries_of ino (live_claims w claims) ≡ entries_of ino (live_claims v claims)
same_entries touched v w claims ino leaves staging out =
    agree (is_live w) (is_live v) ino (map (λ (c : ℕ × Draft). c.1) claims) (λ d is own.
    live_alike v w d (leaves.others d.ino (λ same. out (same ∙ ap Some own))) (leaves.others d.staging (λ same. leaves.plain d.staging same (staging d is))))

-- no more claims are live where those that are live afterwards were live before
fewer : (p q : Draft → Bool) (ds : List Draft) → ((d : Draft) → In d ds → p d ≡ true → q d ≡ true) → length (filter p ds) ≤ length (filter q ds)
fewer p q [] implies = omega arith
fewer p q (x ∷ ds) implies = by (p x) refl (q x) refl (fewer p q ds (λ d is. implies d (inr is))) where
  by : (a : Bool) → p x ≡ a → (b : Bool) → q x ≡ b → length (filter p ds) ≤ length (filter q ds) → length (filter p (x ∷ ds)) ≤ length (filter q (x ∷ ds))
  by true p_is true q_is rest = rw (p_is, q_is) (omega (arith, rest))
  by true p_is false q_is rest = let never : true ≡ false = sym (implies x (inl refl) p_is) ∙ q_is in cc
  by false p_is true q_is rest = rw (p_is, q_is) (omega (arith, rest))
  by false p_is false q_is rest = rw (p_is, q_is) (omega (arith, rest))

pub fewer_live : (w v : Volume) (claims : List (ℕ × Draft)) → ((d : Draft) → In d (map (λ (c : ℕ × Draft). c.1) claims) → is_live w d ≡ true → is_live v d ≡ true) → length (live_claims w claims) ≤ length (live_claims v claims)
fewer_live w v claims fewer_are = fewer (is_live w) (is_live v) (map (λ (c : ℕ × Draft). c.1) claims) fewer_are
