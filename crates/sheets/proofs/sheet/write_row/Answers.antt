use Rattle.std.proofs.Common.{ap, arith}
use Rattle.sheets.specs.Runs.{runs_left}
use Rattle.sheets.specs.Laws.{CutAsRuled}
use Rattle.sheets.proofs.Naming.{left_cut}
use Rattle.sheets.proofs.Framing.{written_none, written_more, written_all, room_for_the_run, is_one_of_them, inside}
use Rattle.sheets.proofs.sheet.write_row.Goals as goal

pub loop-run-init : goal.loop-run-init
loop-run-init g c =
    let s = c.args.runs in
    written_none (g.S.Plane.picture s.store.now).number (runs_left (g.S.Store.bits s.store.now) s.row s.columns s.column) c.args.out.now c.args.start _
    (ap (λ t. runs_left (g.S.Store.bits t.store.now) t.row t.columns t.column) c.into_iter-run-iterator.ensures.into_iter_gives)

pub write_run-at-requires : goal.write_run-at-requires
write_run-at-requires g c =
    let s = c.args.runs in
    let p = g.S.Plane.picture s.store.now in
    let b = g.S.Store.bits s.store.now in
    let all = runs_left b s.row s.columns s.column in
    let cut = is_one_of_them p.number all c.args.out.now c.args.start c.loop-run.yielded _ _ c.in-Some.run' c.loop-run.at c.loop-run.out c.loop-run.invariant c.in-Some.ensures.steps
    (CutAsRuled 16 b p.height s.columns) (left_cut b p.height s.columns s.row s.a_row s.column s.in_the_row) in
    let room = room_for_the_run p.number all c.args.out.now c.args.start c.loop-run.yielded _ _ c.in-Some.run' c.loop-run.at c.loop-run.out c.loop-run.invariant c.in-Some.ensures.steps c.requires.room in
    record {
      inside = rw s.all_columns at (inside b p.height s.columns c.in-Some.run' cut);
      its_end = omega (arith, cut.in_its_columns);
      room = omega (arith, room);
    }

pub loop-run-preserved : goal.loop-run-preserved
loop-run-preserved g c =
    let s = c.args.runs in
    written_more (g.S.Plane.picture s.store.now).number (runs_left (g.S.Store.bits s.store.now) s.row s.columns s.column) c.args.out.now c.args.start c.loop-run.yielded _ _ c.in-Some.run' c.loop-run.at c.loop-run.out
    c.loop-run.invariant c.in-Some.ensures.steps (omega (arith, c.requires.room)) c.write_run-at.new.out c.write_run-at.result c.write_run-at.ensures.writes_the_line c.write_run-at.ensures.answers_its_end

pub returns : goal.returns
returns g c =
    let s = c.args.runs in
    let all = written_all (g.S.Plane.picture s.store.now).number (runs_left (g.S.Store.bits s.store.now) s.row s.columns s.column) c.args.out.now c.args.start c.loop-run.yielded _ c.loop-run.at c.loop-run.out c.loop-run.invariant c.in-None.ensures.steps.0 in
    record { writes_their_lines = all.0; answers_their_end = all.1 }
