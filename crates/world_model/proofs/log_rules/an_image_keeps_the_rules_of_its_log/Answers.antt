use Rattle.world_model.specs.Free.{may_recover}
use Rattle.world_model.specs.LogRules.{keeps_log_rules}
use Rattle.world_model.proofs.log_rules.an_image_keeps_the_rules_of_its_log.Goals as goal

pub returns-clause-rules : goal.returns-clause-rules
returns-clause-rules c = keeps_log_rules

pub returns-clause-recovery : goal.returns-clause-recovery
returns-clause-recovery c = may_recover
