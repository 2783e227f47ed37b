use Rattle.std.proofs.Common.{◌∙◌}
use Rattle.cones.proofs.Cones.{at_depth}
use Rattle.cones.proofs.cone.Cone.contains.Goals as goal

pub returns : goal.returns
returns c =
    record { is_in_the_cone = c.contains_at.ensures.is_the_rule_at_the_depth ∙ at_depth c.args.self.now _ _ _ c.depth_of.ensures.is_the_depth }
