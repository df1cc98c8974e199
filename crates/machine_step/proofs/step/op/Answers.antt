-- `machine_step::step::op` meets its contract: each arm is its op's, by what the step asks. Assumes nothing.
use mathlib.Core.Path.{refl}
use Rattle.basics.specs.Pick.{pick}
use Rattle.kind_table.specs.Kinds.{family_of}
use Rattle.tape_ops.specs.Tape.{tape_of}
use Rattle.machine_step.proofs.Arms.{sets, sets_floats, stores, loads, moves, locates, derefs, refers, allocates, functions, calls, returns, whiles, ifs, elses, ends, gets, puts, peeks, pokes, binds, offsets, swaps, lanes, passes}
use Rattle.machine_step.proofs.step.op.Goals as goal

pub returns-in-0-clause-done : goal.returns-in-0-clause-done
unfolding tape_of family_of pick
returns-in-0-clause-done c = passes c.requires c.in-0.is refl _ refl

pub returns-in-1-clause-done : goal.returns-in-1-clause-done
returns-in-1-clause-done c = sets c.requires c.in-1.is _ _ _ _ c.set.ensures

pub returns-in-2-clause-done : goal.returns-in-2-clause-done
returns-in-2-clause-done c = functions c.requires c.in-2.is _ _ _ _ _ c.function.ensures

pub returns-in-3-clause-done : goal.returns-in-3-clause-done
returns-in-3-clause-done c = calls c.requires c.in-3.is _ _ _ _ _ _ _ c.call.ensures

pub returns-in-4-clause-done : goal.returns-in-4-clause-done
returns-in-4-clause-done c = returns c.requires c.in-4.is _ _ _ _ c.ret.ensures

pub returns-in-5-clause-done : goal.returns-in-5-clause-done
returns-in-5-clause-done c = whiles c.requires c.in-5.is _ _ _ c.while_op.ensures

pub returns-in-6-clause-done : goal.returns-in-6-clause-done
returns-in-6-clause-done c = ifs c.requires c.in-6.is _ _ _ c.if_op.ensures

pub returns-in-7-clause-done : goal.returns-in-7-clause-done
returns-in-7-clause-done c = elses c.requires c.in-7.is _ _ _ c.else_op.ensures

pub returns-in-8-clause-done : goal.returns-in-8-clause-done
returns-in-8-clause-done c = ends c.requires c.in-8.is _ _ _ c.end.ensures

pub returns-in-9-clause-done : goal.returns-in-9-clause-done
returns-in-9-clause-done c = stores c.requires c.in-9.is _ _ _ _ c.store.ensures

pub returns-in-10-clause-done : goal.returns-in-10-clause-done
returns-in-10-clause-done c = loads c.requires c.in-10.is _ _ _ _ _ c.load.ensures

pub returns-in-11-clause-done : goal.returns-in-11-clause-done
returns-in-11-clause-done c = moves c.requires c.in-11.is c.u64_at-by.ensures _ _ _ c.move_op.ensures

pub returns-in-12-clause-done : goal.returns-in-12-clause-done
returns-in-12-clause-done c = locates c.requires c.in-12.is _ _ _ c.where_op.ensures

pub returns-in-13-clause-done : goal.returns-in-13-clause-done
returns-in-13-clause-done c = derefs c.requires c.in-13.is _ _ _ _ _ _ c.deref.ensures

pub returns-in-14-clause-done : goal.returns-in-14-clause-done
returns-in-14-clause-done c = refers c.requires c.in-14.is _ _ _ _ c.refer.ensures

pub returns-in-16-clause-done : goal.returns-in-16-clause-done
returns-in-16-clause-done c = offsets c.requires c.in-16.is c.u64_at-by-in-16.ensures _ _ _ c.offset.ensures

pub returns-in-36-clause-done : goal.returns-in-36-clause-done
returns-in-36-clause-done c = swaps c.requires c.in-36.is _ _ _ _ c.swap.ensures

pub returns-in-38-clause-done : goal.returns-in-38-clause-done
returns-in-38-clause-done c = gets c.requires c.in-38.is c.mode_at-mode.ensures _ _ _ _ c.get.ensures

pub returns-in-39-clause-done : goal.returns-in-39-clause-done
returns-in-39-clause-done c = puts c.requires c.in-39.is c.mode_at-mode-in-39.ensures _ _ _ _ c.put.ensures

pub returns-in-40-clause-done : goal.returns-in-40-clause-done
returns-in-40-clause-done c = sets_floats c.requires c.in-40.is _ _ _ _ c.set-in-40.ensures

pub returns-in-41-clause-done : goal.returns-in-41-clause-done
returns-in-41-clause-done c = allocates c.requires c.in-41.is _ _ _ _ c.alloc.ensures

pub returns-in-42-clause-done : goal.returns-in-42-clause-done
unfolding tape_of family_of pick
returns-in-42-clause-done c = passes c.requires c.in-42.is refl _ refl

pub returns-in-52-clause-done : goal.returns-in-52-clause-done
unfolding tape_of family_of pick
returns-in-52-clause-done c = passes c.requires c.in-52.is refl _ refl

pub returns-in-53-clause-done : goal.returns-in-53-clause-done
unfolding tape_of family_of pick
returns-in-53-clause-done c = passes c.requires c.in-53.is refl _ refl

pub returns-in-54-clause-done : goal.returns-in-54-clause-done
unfolding tape_of family_of pick
returns-in-54-clause-done c = passes c.requires c.in-54.is refl _ refl

pub returns-in-55-clause-done : goal.returns-in-55-clause-done
unfolding tape_of family_of pick
returns-in-55-clause-done c = passes c.requires c.in-55.is refl _ refl

pub returns-in-56-clause-done : goal.returns-in-56-clause-done
unfolding tape_of family_of pick
returns-in-56-clause-done c = passes c.requires c.in-56.is refl _ refl

pub returns-in-57-clause-done : goal.returns-in-57-clause-done
unfolding tape_of family_of pick
returns-in-57-clause-done c = passes c.requires c.in-57.is refl _ refl

pub returns-in-58-clause-done : goal.returns-in-58-clause-done
unfolding tape_of family_of pick
returns-in-58-clause-done c = passes c.requires c.in-58.is refl _ refl

pub returns-in-59-clause-done : goal.returns-in-59-clause-done
returns-in-59-clause-done c = peeks c.requires c.in-59.is _ _ _ _ _ c.peek.ensures

pub returns-in-60-clause-done : goal.returns-in-60-clause-done
returns-in-60-clause-done c = pokes c.requires c.in-60.is _ _ _ _ c.poke.ensures

pub returns-in-61-clause-done : goal.returns-in-61-clause-done
returns-in-61-clause-done c = binds c.requires c.in-61.is c.binding_at-binding.ensures _ _ _ _ _ c.ffi_call.ensures

pub returns-in_default-clause-done : goal.returns-in_default-clause-done
returns-in_default-clause-done c = lanes c.requires c.in_default.in_default-own.rest _ _ _ c.lane_op.ensures
