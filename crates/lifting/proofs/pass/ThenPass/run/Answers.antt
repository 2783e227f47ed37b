use Rattle.std.proofs.Common.{false}
use Rattle.lifting.proofs.Chains.{work_then, bits_then}
use Rattle.lifting.proofs.pass.ThenPass.run.Goals as goal

pub returns : goal.returns
returns g c =
    let p = g.S.Plane.picture c.args.store in
    let q = g.S.Plane.picture c.run.result in
    let f = g.F.Pass.work (g.K.Kernel.amounts c.args.kernel.now) in
    let a = c.run.ensures in
    let b = c.run-2.ensures in
    record {
      does_the_work = work_then p q f a.does_the_work (g.G.Pass.work (g.K.Kernel.amounts c.args.kernel.now)) _ b.does_the_work;
      sets_the_bits_of_what_it_puts = bits_then p q f a.does_the_work g.F.Pass.puts g.G.Pass.puts _ _ _ a.sets_the_bits_of_what_it_puts b.sets_the_bits_of_what_it_puts;
      leaves_what_lies_under = g.S.Store.onward false false _ _ _ a.leaves_what_lies_under b.leaves_what_lies_under;
    }
