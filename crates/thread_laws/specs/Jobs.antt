-- What becomes of the job of a view, by an act of its own caller and of another.
use Rattle.std.specs.Prelude.{◌≡◌, ◌≢◌, ◌⊎◌, ◌<◌, ◌+◌, not, ℕ, zero, suc, Bool, true, false, cond, nat_lt, List, [], ◌∷◌, ◌++◌, filter, length, map, Option, Some, None, refl}
use Rattle.std.proofs.Common.{arith, ap, ◌∙◌, sym, subst, inl, inr, length-append}
use Rattle.std.proofs.lemmas.Bool.Decides.{Decides-eqb, nat_tests}
use Rattle.round_laws.specs.world_view_laws.pm_model.Powers.{Supply}
use Rattle.round_laws.specs.world_view_laws.oplog_entry.layout_model.declared.lines.Draft.{Draft}
use Rattle.round_laws.specs.world_view_laws.list_laws.Filters.{filter-In, In-filter}
use Rattle.round_laws.specs.world_view_laws.list_laws.Members.{In}
use Rattle.round_laws.specs.world_view_laws.posix_types.declared.call.Who.{Who}
use Rattle.round_laws.specs.world_view_laws.posix_tables.Open.{same_who}
use Rattle.round_laws.specs.world_view_laws.live_model.Standing.{JobOut}
use Rattle.round_laws.specs.world_view_laws.live_model.Jobs.{without}
use Rattle.round_laws.specs.world_view_laws.write_end.Blocks.{AreBlocksHome}
use Rattle.round_laws.specs.world_view_laws.Views.{HasNone, WorldView}
use Rattle.round_laws.specs.world_view_laws.Acts.{EndsOwn, IsAct, jobs_of, StaysOf}
use Rattle.thread_laws.specs.Moves.{begun_after}
use Rattle.thread_laws.specs.Stands.{IsJobOf, listed}

-- ---- callers

pub same_self : (who : Who) → same_who who who ≡ true
same_self Who.Setup = refl
same_self (Who.Thread n) = (Decides-eqb n n).1 refl

pub same_is : (a b : Who) → same_who a b ≡ true → a ≡ b
same_is Who.Setup Who.Setup is = refl
same_is Who.Setup (Who.Thread n) is = cc
same_is (Who.Thread m) Who.Setup is = cc
same_is (Who.Thread m) (Who.Thread n) is = ap (λ k. Who.Thread k) ((Decides-eqb m n).0 is)

-- ---- the jobs of a caller

pub jobs_In : (who : Who) (ps : List JobOut) (p : JobOut) → In p (jobs_of who ps) → In p ps × (p.who ≡ who)
jobs_In who ps p there = let is = filter-In (λ (q : JobOut). same_who q.who who) ps p there in (is.0, same_is p.who who is.1)

pub In_jobs : (who : Who) (ps : List JobOut) (p : JobOut) → In p ps → p.who ≡ who → In p (jobs_of who ps)
In_jobs who ps p there own = In-filter (λ (q : JobOut). same_who q.who who) ps p there (ap (λ (w : Who). same_who w who) own ∙ same_self who)

-- none, where none is there
pub no_member : {X : Type 0} (ps : List X) → ((p : X) → In p ps → ⊥) → ps ≡ []
no_member [] none = refl
no_member (p ∷ ps) none = absurd (none p (inl refl))

pub none_of : (who : Who) (ps : List JobOut) → ((p : JobOut) → In p ps → p.who ≢ who) → jobs_of who ps ≡ []
none_of who ps none = no_member (jobs_of who ps) (λ p there. (let is = jobs_In who ps p there in none p is.0 is.1))

-- there is one at most
pub one_most : (ps : List JobOut) (o : Option Draft) (p q : JobOut) → map (λ (r : JobOut). r.draft) ps ≡ listed o → In p ps → In q ps → p ≡ q
one_most [] o p q are at_p at_q = absurd at_p
one_most (x ∷ []) o p q are (inl same) (inl too) = sym same ∙ too
one_most (x ∷ []) o p q are (inr none) at_q = absurd none
one_most (x ∷ []) o p q are at_p (inr none) = absurd none
one_most (x ∷ y ∷ ps) None p q are at_p at_q = (let never : x.draft ∷ map (λ (r : JobOut). r.draft) (y ∷ ps) ≡ [] = are in cc)
one_most (x ∷ y ∷ ps) (Some d) p q are at_p at_q = (let never : x.draft ∷ y.draft ∷ map (λ (r : JobOut). r.draft) ps ≡ d ∷ [] = are in cc)

-- those of another are among those that are left
kept_by : (who other : Who) → other ≢ who → (ps : List JobOut) → jobs_of other (without who ps) ≡ jobs_of other ps
kept_by who other apart [] = refl
kept_by who other apart (p ∷ ps) = by (same_who p.who who) refl (kept_by who other apart ps)
  where
    by : (b : Bool) → same_who p.who who ≡ b → jobs_of other (without who ps) ≡ jobs_of other ps
        → jobs_of other (cond (not b) (p ∷ without who ps) (without who ps)) ≡ jobs_of other (p ∷ ps)
    by false is rest = ap (λ (qs : List JobOut). cond (same_who p.who other) (p ∷ qs) qs) rest
    by true is rest = rest ∙ sym (ap (λ (c : Bool). cond c (p ∷ jobs_of other ps) (jobs_of other ps)) (other_not (same_who p.who other) refl)) where
      other_not : (c : Bool) → same_who p.who other ≡ c → c ≡ false
      other_not false e = refl
      other_not true e = absurd (apart (sym (same_is p.who other e) ∙ same_is p.who who is))

others_stay : (who other : Who) (old new : WorldView) → other ≢ who → without who new.pending ≡ without who old.pending → jobs_of other new.pending ≡ jobs_of other old.pending
others_stay who other old new apart same =
    sym (kept_by who other apart new.pending) ∙ (ap (jobs_of other) same ∙ kept_by who other apart old.pending)

-- ---- what begun_after is

pub begun_none : (a b : List JobOut) (claimed : Bool) (begun : Option WorldView) (w : WorldView) → b ≡ [] → begun_after a b claimed begun w ≡ None
begun_none a [] claimed begun w none = refl
begun_none a (p ∷ b) claimed begun w none = cc

pub begun_new : (a b : List JobOut) (claimed : Bool) (begun : Option WorldView) (w : WorldView) → a ≡ [] → b ≢ [] → begun_after a b claimed begun w ≡ Some w
begun_new a [] claimed begun w none some = absurd (some refl)
begun_new [] (p ∷ b) claimed begun w none some = refl
begun_new (q ∷ a) (p ∷ b) claimed begun w none some = cc

pub begun_claimed : (a b : List JobOut) (begun : Option WorldView) (w : WorldView) → a ≢ [] → begun_after a b true begun w ≡ None
begun_claimed a [] begun w some = refl
begun_claimed [] (p ∷ b) begun w some = absurd (some refl)
begun_claimed (q ∷ a) (p ∷ b) begun w some = refl

pub begun_same : (a b : List JobOut) (begun : Option WorldView) (w : WorldView) → a ≢ [] → b ≢ [] → begun_after a b false begun w ≡ begun
begun_same a [] begun w some too = absurd (too refl)
begun_same [] (p ∷ b) begun w some too = absurd (some refl)
begun_same (q ∷ a) (p ∷ b) begun w some too = refl

none_or_some : (ps : List JobOut) → (ps ≡ []) ⊎ (ps ≢ [])
none_or_some [] = inl refl
none_or_some (p ∷ ps) = inr (λ e. cc)

pub some_there : (ps : List JobOut) (p : JobOut) → In p ps → ps ≢ []
some_there ps p there none = subst (In p) none there

pub not_less : (n : ℕ) → nat_lt n n ≡ false
not_less n = grind (arith, nat_tests)

pub less_more : (n m : ℕ) → n < m → nat_lt n m ≡ true
less_more n m below = grind (arith, nat_tests)

-- ---- of its own caller

module _ (old new : WorldView) (before after : Supply) (who : Who) (out : Option Draft) (begun : Option WorldView) (act : IsAct who old new before after)
    (out_is : map (λ (p : JobOut). p.draft) (jobs_of who old.pending) ≡ listed out) (job : IsJobOf old who begun) where
  abbrev claimed : Bool
  claimed = nat_lt (length old.claims) (length new.claims)

  abbrev now_begun : Option WorldView
  now_begun = begun_after (jobs_of who old.pending) (jobs_of who new.pending) claimed begun new

  as_none : now_begun ≡ None → IsJobOf new who None → IsJobOf new who now_begun
  as_none is none = subst (IsJobOf new who) (sym is) none

  gone : jobs_of who new.pending ≡ [] → IsJobOf new who now_begun
  gone none = as_none (begun_none (jobs_of who old.pending) (jobs_of who new.pending) claimed begun new none) (inl none)

  -- it claimed nothing, and its jobs are the same
  stays : (o : Option WorldView) → new.claims ≡ old.claims → jobs_of who new.pending ≡ jobs_of who old.pending → jobs_of who old.pending ≢ [] → IsJobOf old who o → IsJobOf new who o
  stays None claims same some (inl none) = absurd (some none)
  stays None claims same some (inr (lost, home)) =
      let keeps = act.own_stays claims same in
      inr (
        act.lost lost,
        λ p there. (
            let was : In p (jobs_of who old.pending) = subst (In p) same there in
            let is = jobs_In who old.pending p was in
            keeps.1 p is.0 is.1 (home p was)),
      )
  stays (Some then) claims same some (jobs, there, kept) =
      let keeps = act.own_stays claims same in (
        jobs ∙ sym same,
        (λ none. some (sym same ∙ none)),
        (λ p held own is. keeps.0.0 p held own (kept.0 p held own is), λ p held own is. keeps.0.1 p held own (kept.1 p held own is)),
      )

  same_jobs : jobs_of who new.pending ≡ jobs_of who old.pending → IsJobOf new who now_begun
  same_jobs same = elim (none_or_some (jobs_of who old.pending)) [
    | inl none ↦ gone (same ∙ none)
    | inr some ↦ elim act.pair [
      | inl claims ↦
          let not : claimed ≡ false = ap (λ (n : ℕ). nat_lt (length old.claims) n) (ap length claims) ∙ not_less (length old.claims) in
          let is : now_begun ≡ begun =
          ap (λ (c : Bool). begun_after (jobs_of who old.pending) (jobs_of who new.pending) c begun new) not ∙ begun_same (jobs_of who old.pending) (jobs_of who new.pending) begun new some (λ none. some (sym same ∙ none))
          in
          subst (IsJobOf new who) (sym is) (stays begun claims same some job)
      | inr (slot, p, there, own, claims, ends) ↦
          let yes : claimed ≡ true = less_more (length old.claims) (length new.claims) (omega (arith, ap length claims, length-append old.claims ((slot, p.draft) ∷ []))) in
          let is : now_begun ≡ None =
          ap (λ (c : Bool). begun_after (jobs_of who old.pending) (jobs_of who new.pending) c begun new) yes ∙ begun_claimed (jobs_of who old.pending) (jobs_of who new.pending) begun new some
          in
          elim ends [
            | inl none ↦ gone (none_of who new.pending none)
            | inr (lost, pending, home) ↦ as_none is (inr (
              lost,
              λ q at. (
                  let both : p ≡ q = one_most (jobs_of who old.pending) out p q out_is (In_jobs who old.pending p there own) (subst (In q) same at) in
                  subst (λ (r : JobOut). AreBlocksHome r.blocks new.disk.cells) both home),
            ))
          ]
    ]
  ]

  holder : IsJobOf new who now_begun
  holder = elim act.own [
    | inl same ↦ same_jobs same
    | inr (inl none) ↦ gone (none_of who new.pending none)
    | inr (inr one) ↦
        let some : jobs_of who new.pending ≢ [] = (λ none. (let never : one.job ∷ [] ≡ [] = sym one.one ∙ none in cc)) in
        let is : now_begun ≡ Some new = begun_new (jobs_of who old.pending) (jobs_of who new.pending) claimed begun new (none_of who old.pending one.none) some in
        subst (IsJobOf new who) (sym is) (refl, some, (λ p held own at. at, λ p held own at. at))
  ]

pub holder_job : (old new : WorldView) (before after : Supply) (who : Who) (out : Option Draft) (begun : Option WorldView) → IsAct who old new before after
    → map (λ (p : JobOut). p.draft) (jobs_of who old.pending) ≡ listed out → IsJobOf old who begun
    → IsJobOf new who (begun_after (jobs_of who old.pending) (jobs_of who new.pending) (nat_lt (length old.claims) (length new.claims)) begun new)
holder_job old new before after who out begun act out_is job = holder old new before after who out begun act out_is job

-- ---- of another

other_stays : (old new : WorldView) (before after : Supply) (who other : Who) (o : Option WorldView) → IsAct who old new before after → other ≢ who → jobs_of other new.pending ≡ jobs_of other old.pending
    → IsJobOf old other o → IsJobOf new other o
other_stays old new before after who other None act apart same (inl none) = inl (same ∙ none)
other_stays old new before after who other None act apart same (inr (lost, home)) =
    inr (
      act.lost lost,
      λ p there. (
          let was : In p (jobs_of other old.pending) = subst (In p) same there in
          let is = jobs_In other old.pending p was in
          act.homes lost p is.0 (λ e. apart (sym is.1 ∙ e)) (home p was)),
    )
other_stays old new before after who other (Some then) act apart same (jobs, there, kept) = (
  jobs ∙ sym same,
  (λ none. there (sym same ∙ none)),
  (λ p held own is. act.stay.0 p held (λ e. apart (sym own ∙ e)) (kept.0 p held own is), λ p held own is. act.stay.1 p held (λ e. apart (sym own ∙ e)) (kept.1 p held own is)),
)

pub other_job : (old new : WorldView) (before after : Supply) (who other : Who) (begun : Option WorldView) → IsAct who old new before after → other ≢ who
    → IsJobOf old other begun → (jobs_of other new.pending ≡ jobs_of other old.pending) × IsJobOf new other begun
other_job old new before after who other begun act apart job =
    let same = others_stay who other old new apart act.jobs in
    (same, other_stays old new before after who other begun act apart same job)
