-- The pair that goes is where the search for it ends, and there is room for the one that is put in.
use Rattle.std.proofs.Common.{◌≡◌, ◌<◌, ◌+◌, ◌∙◌, sym, ap, arith, cond, subst, List, ℕ, true, vec_len}
use Rattle.std.specs.List.{insert, remove}
use Rattle.std.specs.Prelude.{is_ok, vec_capacity}
use Rattle.k_names.specs.Indexes.{Has, IsBegun, IsChanged, IsRising, pair_of}
use Rattle.k_names.proofs.PairLaws.{changed, found_at, without-rising}
use Rattle.k_names.proofs.index.LineIndex.change.Goals as goal

pub begun-to-requires : goal.begun-to-requires
begun-to-requires c =
    let pairs = c.self.inside.pairs.items in
    let gone = pair_of c.args.old c.args.line in
    let put = pair_of c.args.new c.args.line in
    let at = c.begun-at.result in
    let rising : IsRising pairs = c.self.invariant.0 in
    let has : Has pairs gone = subst (λ (xs : List ℕ). Has xs gone) (sym c.self.view_is) c.requires.has in
    let begun : IsBegun pairs gone at = subst (λ (xs : List ℕ). IsBegun xs gone at) c.deref.ensures.value
    (subst (λ (p : ℕ). IsBegun c.deref.result.now p at) c.pair.ensures c.begun-at.ensures) in
    let found = found_at pairs gone at rising begun has in
    subst IsRising (sym (c.deref-2.ensures.value ∙ c.remove.ensures.items)) (without-rising pairs gone at rising found.0 found.1)

pub invariant_of-self : goal.invariant_of-self
invariant_of-self c =
    let pairs = c.self.inside.pairs.items in
    let gone = pair_of c.args.old c.args.line in
    let put = pair_of c.args.new c.args.line in
    let at = c.begun-at.result in
    let rising : IsRising pairs = c.self.invariant.0 in
    let has : Has pairs gone = subst (λ (xs : List ℕ). Has xs gone) (sym c.self.view_is) c.requires.has in
    let begun : IsBegun pairs gone at = subst (λ (xs : List ℕ). IsBegun xs gone at) c.deref.ensures.value
    (subst (λ (p : ℕ). IsBegun c.deref.result.now p at) c.pair.ensures c.begun-at.ensures) in
    let found = found_at pairs gone at rising begun has in
    let rest = remove pairs at in
    let to = c.begun-to.result in
    let once : Has pairs put → put ≡ gone =
    λ h. ap (λ w. pair_of w c.args.line) (c.requires.once (subst (λ (xs : List ℕ). Has xs put) c.self.view_is h)) in
    let begun_rest : IsBegun rest put to = subst (λ (xs : List ℕ). IsBegun xs put to) (c.deref-2.ensures.value ∙ c.remove.ensures.items)
    (subst (λ (p : ℕ). IsBegun c.deref-2.result.now p to) c.pair-2.ensures c.begun-to.ensures) in
    let room : vec_len c.remove.new.self < vec_capacity c.remove.new.self = omega (arith, c.remove.ensures.len, c.remove.ensures.capacity, c.self.invariant.1) in
    let ok : is_ok c.insert-put.result ≡ true = c.insert-put.ensures.succeeds room in
    let after : c.insert-put.new.self.items ≡ insert rest to put =
    c.insert-put.ensures.items
    ∙ ap (λ b. cond b (insert c.remove.new.self.items to c.pair-3.result) c.remove.new.self.items) ok
    ∙ (λ i. insert (c.remove.ensures.items i) to (c.pair-3.ensures i)) in
    let all : IsChanged pairs gone put (insert rest to put) = changed pairs gone put at to rising found.0 found.1 begun_rest once in
    let count : vec_len c.insert-put.new.self ≡ vec_len c.remove.new.self + 1 =
    c.insert-put.ensures.len ∙ ap (λ b. cond b (vec_len c.remove.new.self + 1) (vec_len c.remove.new.self)) ok in (
      subst IsRising (sym after) all.rising,
      omega (arith, count, room, c.insert-put.ensures.capacity),
    )

pub returns : goal.returns
returns c =
    let pairs = c.self.inside.pairs.items in
    let gone = pair_of c.args.old c.args.line in
    let put = pair_of c.args.new c.args.line in
    let at = c.begun-at.result in
    let rising : IsRising pairs = c.self.invariant.0 in
    let has : Has pairs gone = subst (λ (xs : List ℕ). Has xs gone) (sym c.self.view_is) c.requires.has in
    let begun : IsBegun pairs gone at = subst (λ (xs : List ℕ). IsBegun xs gone at) c.deref.ensures.value
    (subst (λ (p : ℕ). IsBegun c.deref.result.now p at) c.pair.ensures c.begun-at.ensures) in
    let found = found_at pairs gone at rising begun has in
    let rest = remove pairs at in
    let to = c.begun-to.result in
    let once : Has pairs put → put ≡ gone =
    λ h. ap (λ w. pair_of w c.args.line) (c.requires.once (subst (λ (xs : List ℕ). Has xs put) c.self.view_is h)) in
    let begun_rest : IsBegun rest put to = subst (λ (xs : List ℕ). IsBegun xs put to) (c.deref-2.ensures.value ∙ c.remove.ensures.items)
    (subst (λ (p : ℕ). IsBegun c.deref-2.result.now p to) c.pair-2.ensures c.begun-to.ensures) in
    let room : vec_len c.remove.new.self < vec_capacity c.remove.new.self = omega (arith, c.remove.ensures.len, c.remove.ensures.capacity, c.self.invariant.1) in
    let ok : is_ok c.insert-put.result ≡ true = c.insert-put.ensures.succeeds room in
    let after : c.insert-put.new.self.items ≡ insert rest to put =
    c.insert-put.ensures.items
    ∙ ap (λ b. cond b (insert c.remove.new.self.items to c.pair-3.result) c.remove.new.self.items) ok
    ∙ (λ i. insert (c.remove.ensures.items i) to (c.pair-3.ensures i)) in
    let all : IsChanged pairs gone put (insert rest to put) = changed pairs gone put at to rising found.0 found.1 begun_rest once in
    subst (λ (xs : List ℕ). IsChanged xs gone put c.insert-put.new.self.items) c.self.view_is
    (subst (λ (xs : List ℕ). IsChanged pairs gone put xs) (sym after) all)
