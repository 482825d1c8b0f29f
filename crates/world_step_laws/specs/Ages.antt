-- Entries of dead files stay dead. A line that is taken again has its generation raised by one, modulo 2^32; so a claim of the
-- lap is of an inode's present generation, or of one that it had before, as long as fewer than 2^31 nodes are made in a lap.
use Rattle.std.specs.Prelude.{◌≡◌, ◌≢◌, ◌⊎◌, ◌<◌, ◌≤◌, ◌+◌, ◌%◌, ◌^◌, ◌==◌, ◌&&◌, ℕ, Bool, true, false, List, length, map, refl}
use Rattle.std.proofs.Common.{arith, ap, ◌∙◌, sym, inl, inr}
use Rattle.std.proofs.lemmas.Bool.{cases_eq, ne_eqb}
use Rattle.volume_change_laws.specs.layout_model.declared.lines.Draft.{Draft}
use Rattle.volume_change_laws.specs.layout_model.declared.lines.Kind.TheVariants.{Free, Staging}
use Rattle.volume_change_laws.specs.layout_model.Lines.{NameRow}
use Rattle.volume_change_laws.specs.layout_model.declared.lines.Kind.{Kind}
use Rattle.volume_change_laws.specs.image_model.Live.{is_file, is_of_file}
use Rattle.volume_change_laws.specs.image_model.Volume.{inode, Volume}
use Rattle.volume_change_laws.specs.k_split_model.ChangesChanges.{made}
use Rattle.commute_laws.specs.list_laws.Members.{In}
use Rattle.volume_change_laws.specs.FrameLaws.{made-inode, made-others}

-- Since the lap began so many nodes were made. Each claim of the lap is in a staging file, of an inode that may be a file's, and
-- of a generation that its line had then or since: it was taken at most so many times after.
pub record AreAged (v : Volume) (claims : List (ℕ × Draft)) (count : ℕ) : Type 0 where
  pub small : count < 2 ^ 31
  pub staging : (d : Draft) → In d (map (λ (c : ℕ × Draft). c.1) claims) → (inode v d.staging).kind ≡ Staging
  pub own : (d : Draft) → In d (map (λ (c : ℕ × Draft). c.1) claims) → 5 ≤ d.ino
  pub taken : (d : Draft) → In d (map (λ (c : ℕ × Draft). c.1) claims)
      → (d.generation < 2 ^ 32) × ((m : ℕ) × (m ≤ count) × ((d.generation + m) % 2 ^ 32 ≡ (inode v d.ino).generation))

never_again : (g h m count : ℕ) → count < 2 ^ 31 → m ≤ count → g < 2 ^ 32 → (g + m) % 2 ^ 32 ≡ h → (h + 1) % 2 ^ 32 ≢ g
never_again g h m count small most low is same = omega (arith, small, most, low, is, same)

once_more : (g h m : ℕ) → (g + m) % 2 ^ 32 ≡ h → (g + (m + 1)) % 2 ^ 32 ≡ (h + 1) % 2 ^ 32
once_more g h m is = omega (arith, is)

of_no_file : (a b : Bool) → b ≡ false → (a && b) ≡ false
of_no_file true b is = is
of_no_file false b is = refl

-- NO CLAIM OF THE LAP is of the file that is made.
pub dead-made : (kind : Kind) (ino line : ℕ) (r : NameRow) (v : Volume) (claims : List (ℕ × Draft)) (count : ℕ) (d : Draft) → AreAged v claims count → ino < length v.inodes → In d (map (λ (c : ℕ × Draft). c.1) claims) → d.ino ≡ ino
    → is_of_file (made kind ino line r v) d ≡ false
dead-made kind ino line r v claims count d aged below is own =
    let its = aged.taken d is in
    let now : (inode (made kind ino line r v) d.ino).generation ≡ ((inode v d.ino).generation + 1) % 2 ^ 32 =
    ap (λ i. (inode (made kind ino line r v) i).generation) own ∙ (ap (λ x. x.generation) (made-inode kind ino line r v below) ∙ ap (λ i. ((inode v i).generation + 1) % 2 ^ 32) (sym own))
    in
    let apart : (inode (made kind ino line r v) d.ino).generation ≢ d.generation =
    λ same. never_again d.generation (inode v d.ino).generation its.1.0 count aged.small its.1.1 its.0 its.1.2 (sym now ∙ same)
    in
    of_no_file (is_file (inode (made kind ino line r v) d.ino).kind) ((inode (made kind ino line r v) d.ino).generation == d.generation)
    (ne_eqb (inode (made kind ino line r v) d.ino).generation d.generation apart)

-- The ages stay where no node is made, and rise by one where one is.
pub AreAged-same : (v w : Volume) (claims : List (ℕ × Draft)) (count : ℕ) → ((ino : ℕ) → (inode w ino).generation ≡ (inode v ino).generation) → ((ino : ℕ) → (inode v ino).kind ≡ Staging → (inode w ino).kind ≡ Staging)
    → AreAged v claims count → AreAged w claims count
AreAged-same v w claims count same staging aged = record {
  small = aged.small;
  staging = λ d is. staging d.staging (aged.staging d is);
  own = aged.own;
  taken = λ d is. (let its = aged.taken d is in (its.0, (its.1.0, its.1.1, its.1.2 ∙ sym (same d.ino))));
}

pub AreAged-made : (kind : Kind) (ino line : ℕ) (r : NameRow) (v : Volume) (claims : List (ℕ × Draft)) (count : ℕ) → AreAged v claims count → count + 1 < 2 ^ 31 → ino < length v.inodes → (inode v ino).kind ≡ Free
    → AreAged (made kind ino line r v) claims (count + 1)
AreAged-made kind ino line r v claims count aged small below free = record {
  small = small;
  staging = λ d is. stays d (aged.staging d is);
  own = aged.own;
  taken = λ d is. taken d is (cases_eq d.ino ino);
} where
  stays : (d : Draft) → (inode v d.staging).kind ≡ Staging → (inode (made kind ino line r v) d.staging).kind ≡ Staging
  stays d is =
      let apart : d.staging ≢ ino = λ same. (let never : Staging ≡ Free = sym is ∙ (ap (λ i. (inode v i).kind) same ∙ free) in cc) in
      ap (λ x. x.kind) ((made-others kind ino line r v).inodes d.staging (apart, tt)) ∙ is

  taken : (d : Draft) → In d (map (λ (c : ℕ × Draft). c.1) claims) → (d.ino ≡ ino) ⊎ (d.ino ≢ ino)
      → (d.generation < 2 ^ 32) × ((m : ℕ) × (m ≤ count + 1) × ((d.generation + m) % 2 ^ 32 ≡ (inode (made kind ino line r v) d.ino).generation))
  taken d is (inl own) =
      let its = aged.taken d is in
      let most = its.1.1 in (
        its.0,
        (
          its.1.0 + 1,
          omega (arith, most),
          once_more d.generation (inode v d.ino).generation its.1.0 its.1.2
              ∙ sym (ap (λ i. (inode (made kind ino line r v) i).generation) own ∙ (ap (λ x. x.generation) (made-inode kind ino line r v below) ∙ ap (λ i. ((inode v i).generation + 1) % 2 ^ 32) (sym own))),
        ),
      )
  taken d is (inr other) =
      let its = aged.taken d is in
      let most = its.1.1 in
      (its.0, (its.1.0, omega (arith, most), its.1.2 ∙ ap (λ x. x.generation) (sym ((made-others kind ino line r v).inodes d.ino (other, tt)))))
