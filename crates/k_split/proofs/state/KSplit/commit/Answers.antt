use Rattle.std.proofs.Common.{[], ◌≡◌, true, false, refl, sym, ◌∙◌, subst}
use Rattle.block_io.specs.pm_model.Powers.{is_on}
use Rattle.k_group_commit.specs.JoinLaws.{goes-committed, have-gathered, was-committed}
use Rattle.k_split.proofs.ChangeLaws.{awake}
use Rattle.k_split.proofs.Commits.{ahead, answer-done, answer-lost, outcome-done, outcome-lost, ready-committed}
use Rattle.k_split.proofs.Steady.{steady-goes, steady-ready}
use Rattle.k_split.proofs.state.KSplit.commit.Goals as goal

pub commit_group-requires : goal.commit_group-requires
commit_group-requires c = record {
  ready = λ given.
      let k = c.self.inside in
      let on : is_on c.args.power.now ≡ true = sym c.on.ensures ∙ c.if-not-on.false in
      let is : k.lost ≡ false = awake k.tables k.group k.pm k.batched k.lost c.args.self.now c.args.power.now c.self.view_is c.requires.awake on in
      let ready = c.self.invariant is in
      let g = c.geometry.result.now in
      let to = ahead k.tables k.group k.batch k.pm k.batched k.lost ready in (
        ready.committed,
        k.tables.volume,
        have-gathered ready.committed k.tables k.tables k.group k.pm g c.geometry.ensures.numbers to,
      );
}

pub invariant_of-self-in-Done : goal.invariant_of-self-in-Done
invariant_of-self-in-Done c still =
    let k = c.self.inside in
    let on : is_on c.args.power.now ≡ true = sym c.on.ensures ∙ c.if-not-on.false in
    let is : k.lost ≡ false = awake k.tables k.group k.pm k.batched k.lost c.args.self.now c.args.power.now c.self.view_is c.requires.awake on in
    let ready = c.self.invariant is in
    let g = c.geometry.result.now in
    let to = ahead k.tables k.group k.batch k.pm k.batched k.lost ready in
    let goes =
    goes-committed ready.committed k.tables k.tables k.group k.pm g c.geometry.ensures.numbers to c.commit_group.new.pm
    c.commit_group.ensures.size c.commit_group.ensures.lent c.commit_group.ensures.each_image c.commit_group.ensures.others
    in
    let done = c.in-Done.is in
    let was =
    was-committed ready.committed k.tables k.tables k.group k.pm g c.geometry.ensures.numbers to c.settle.new.self c.commit_group.new.group c.commit_group.new.pm
    c.settle.ensures.settled (c.commit_group.ensures.empty done) goes (c.commit_group.ensures.keeps done) (c.commit_group.ensures.done done)
    in
    ready-committed k.tables k.group k.batch k.pm k.batched k.lost ready c.settle.new.self c.commit_group.new.group c.commit_group.new.pm was

pub returns-in-Done-clause-answer : goal.returns-in-Done-clause-answer
returns-in-Done-clause-answer c =
    let k = c.self.inside in
    let on : is_on c.args.power.now ≡ true = sym c.on.ensures ∙ c.if-not-on.false in
    let is : k.lost ≡ false = awake k.tables k.group k.pm k.batched k.lost c.args.self.now c.args.power.now c.self.view_is c.requires.awake on in
    let ready = c.self.invariant is in
    let g = c.geometry.result.now in
    let to = ahead k.tables k.group k.batch k.pm k.batched k.lost ready in
    let goes =
    goes-committed ready.committed k.tables k.tables k.group k.pm g c.geometry.ensures.numbers to c.commit_group.new.pm
    c.commit_group.ensures.size c.commit_group.ensures.lent c.commit_group.ensures.each_image c.commit_group.ensures.others
    in
    let done = c.in-Done.is in
    let was =
    was-committed ready.committed k.tables k.tables k.group k.pm g c.geometry.ensures.numbers to c.settle.new.self c.commit_group.new.group c.commit_group.new.pm
    c.settle.ensures.settled (c.commit_group.ensures.empty done) goes (c.commit_group.ensures.keeps done) (c.commit_group.ensures.done done)
    in
    answer-done k.tables k.group k.batch k.pm k.batched k.lost ready c.settle.new.self c.commit_group.new.group c.commit_group.new.pm was c.args.self.now is c.self.view_is

pub returns-in-Done-clause-outcome : goal.returns-in-Done-clause-outcome
returns-in-Done-clause-outcome c =
    let k = c.self.inside in
    let on : is_on c.args.power.now ≡ true = sym c.on.ensures ∙ c.if-not-on.false in
    let is : k.lost ≡ false = awake k.tables k.group k.pm k.batched k.lost c.args.self.now c.args.power.now c.self.view_is c.requires.awake on in
    let ready = c.self.invariant is in
    let g = c.geometry.result.now in
    let to = ahead k.tables k.group k.batch k.pm k.batched k.lost ready in
    let goes =
    goes-committed ready.committed k.tables k.tables k.group k.pm g c.geometry.ensures.numbers to c.commit_group.new.pm
    c.commit_group.ensures.size c.commit_group.ensures.lent c.commit_group.ensures.each_image c.commit_group.ensures.others
    in
    let done = c.in-Done.is in
    let was =
    was-committed ready.committed k.tables k.tables k.group k.pm g c.geometry.ensures.numbers to c.settle.new.self c.commit_group.new.group c.commit_group.new.pm
    c.settle.ensures.settled (c.commit_group.ensures.empty done) goes (c.commit_group.ensures.keeps done) (c.commit_group.ensures.done done)
    in
    outcome-done k.tables k.group k.batch k.pm k.batched k.lost ready c.settle.new.self c.commit_group.new.group c.commit_group.new.pm was c.args.self.now c.self.view_is

pub returns-in-PowerLost-clause-answer : goal.returns-in-PowerLost-clause-answer
returns-in-PowerLost-clause-answer c =
    let k = c.self.inside in
    let on : is_on c.args.power.now ≡ true = sym c.on.ensures ∙ c.if-not-on.false in
    let is : k.lost ≡ false = awake k.tables k.group k.pm k.batched k.lost c.args.self.now c.args.power.now c.self.view_is c.requires.awake on in
    let ready = c.self.invariant is in
    let g = c.geometry.result.now in
    let to = ahead k.tables k.group k.batch k.pm k.batched k.lost ready in
    let goes =
    goes-committed ready.committed k.tables k.tables k.group k.pm g c.geometry.ensures.numbers to c.commit_group.new.pm
    c.commit_group.ensures.size c.commit_group.ensures.lent c.commit_group.ensures.each_image c.commit_group.ensures.others
    in
    answer-lost k.tables k.group k.batch k.pm k.batched k.lost ready c.args.self.now c.commit_group.new.pm c.commit_group.new.group c.self.view_is goes

pub returns-in-PowerLost-clause-outcome : goal.returns-in-PowerLost-clause-outcome
returns-in-PowerLost-clause-outcome c =
    let k = c.self.inside in
    let on : is_on c.args.power.now ≡ true = sym c.on.ensures ∙ c.if-not-on.false in
    let is : k.lost ≡ false = awake k.tables k.group k.pm k.batched k.lost c.args.self.now c.args.power.now c.self.view_is c.requires.awake on in
    let ready = c.self.invariant is in
    let g = c.geometry.result.now in
    let to = ahead k.tables k.group k.batch k.pm k.batched k.lost ready in
    let goes =
    goes-committed ready.committed k.tables k.tables k.group k.pm g c.geometry.ensures.numbers to c.commit_group.new.pm
    c.commit_group.ensures.size c.commit_group.ensures.lent c.commit_group.ensures.each_image c.commit_group.ensures.others
    in
    outcome-lost k.tables k.group k.batch k.pm k.batched k.lost ready c.args.self.now c.commit_group.new.pm c.commit_group.new.group c.self.view_is goes

pub invariant_of-self-inside-in-Done : goal.invariant_of-self-inside-in-Done
invariant_of-self-inside-in-Done c =
    let k = c.self.inside in
    let on : is_on c.args.power.now ≡ true = sym c.on.ensures ∙ c.if-not-on.false in
    let is : k.lost ≡ false = awake k.tables k.group k.pm k.batched k.lost c.args.self.now c.args.power.now c.self.view_is c.requires.awake on in
    let ready = c.self.invariant is in
    let g = c.geometry.result.now in
    let to = ahead k.tables k.group k.batch k.pm k.batched k.lost ready in
    let goes =
    goes-committed ready.committed k.tables k.tables k.group k.pm g c.geometry.ensures.numbers to c.commit_group.new.pm
    c.commit_group.ensures.size c.commit_group.ensures.lent c.commit_group.ensures.each_image c.commit_group.ensures.others
    in
    let done = c.in-Done.is in
    let was =
    was-committed ready.committed k.tables k.tables k.group k.pm g c.geometry.ensures.numbers to c.settle.new.self c.commit_group.new.group c.commit_group.new.pm
    c.settle.ensures.settled (c.commit_group.ensures.empty done) goes (c.commit_group.ensures.keeps done) (c.commit_group.ensures.done done)
    in
    let now = ready-committed k.tables k.group k.batch k.pm k.batched k.lost ready c.settle.new.self c.commit_group.new.group c.commit_group.new.pm was in
    (now.opened.idle, (λ batched. steady-ready c.settle.new.self c.commit_group.new.group k.batch c.commit_group.new.pm k.batched now, tt))

pub invariant_of-self-inside-in-PowerLost : goal.invariant_of-self-inside-in-PowerLost
invariant_of-self-inside-in-PowerLost c =
    let k = c.self.inside in
    let on : is_on c.args.power.now ≡ true = sym c.on.ensures ∙ c.if-not-on.false in
    let is : k.lost ≡ false = awake k.tables k.group k.pm k.batched k.lost c.args.self.now c.args.power.now c.self.view_is c.requires.awake on in
    let ready = c.self.invariant is in
    let g = c.geometry.result.now in
    let to = ahead k.tables k.group k.batch k.pm k.batched k.lost ready in
    let goes =
    goes-committed ready.committed k.tables k.tables k.group k.pm g c.geometry.ensures.numbers to c.commit_group.new.pm
    c.commit_group.ensures.size c.commit_group.ensures.lent c.commit_group.ensures.each_image c.commit_group.ensures.others
    in
    (k.none_aside, (λ batched. steady-goes k.tables k.group k.batch k.pm k.batched ready [] c.commit_group.new.pm goes, tt))
