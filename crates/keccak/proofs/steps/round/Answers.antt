use Rattle.std.proofs.Common.{ap, ◌∙◌}
use Rattle.keccak.specs.Permutation.{Rnd, ρ, π, χ, ι}
use Rattle.keccak.proofs.steps.round.Goals as goal

pub returns : goal.returns
unfolding Rnd
returns c = c.iota.ensures ∙ ap (ι c.args.constant) (c.chi.ensures ∙ ap χ (c.pi.ensures ∙ ap π (c.rho.ensures ∙ ap ρ c.theta.ensures)))
