use Rattle.translation.specs.Arms.{arm_of}
use Rattle.translation.specs.Emit.{emits}
use Rattle.translation.proofs.writer.Writer.op.Goals as goal

pub returns-in-Mov : goal.returns-in-Mov
unfolding arm_of emits
returns-in-Mov c = rw c.in-Mov.is (record { is = c.mov.ensures.is })

pub returns-in-Mov32i : goal.returns-in-Mov32i
unfolding arm_of emits
returns-in-Mov32i c = rw c.in-Mov32i.is (record { is = c.mov32i.ensures.is })

pub returns-in-Sel : goal.returns-in-Sel
unfolding arm_of emits
returns-in-Sel c = rw c.in-Sel.is (record { is = c.sel.ensures.is })

pub returns-in-Csetp : goal.returns-in-Csetp
unfolding arm_of emits
returns-in-Csetp c = rw c.in-Csetp.is (record { is = c.csetp.ensures.is })

pub returns-in-Isetp : goal.returns-in-Isetp
unfolding arm_of emits
returns-in-Isetp c = rw c.in-Isetp.is (record { is = c.icompare.ensures.is })

pub returns-in-Iset : goal.returns-in-Iset
unfolding arm_of emits
returns-in-Iset c = rw c.in-Iset.is (record { is = c.icompare-in-Iset.ensures.is })

pub returns-in-Psetp : goal.returns-in-Psetp
unfolding arm_of emits
returns-in-Psetp c = rw c.in-Psetp.is (record { is = c.pcombine.ensures.is })

pub returns-in-Pset : goal.returns-in-Pset
unfolding arm_of emits
returns-in-Pset c = rw c.in-Pset.is (record { is = c.pcombine-in-Pset.ensures.is })

pub returns-in-Iadd : goal.returns-in-Iadd
unfolding arm_of emits
returns-in-Iadd c = rw c.in-Iadd.is (record { is = c.iadd.ensures.is })

pub returns-in-Iadd32i : goal.returns-in-Iadd32i
unfolding arm_of emits
returns-in-Iadd32i c = rw c.in-Iadd32i.is (record { is = c.iadd32i.ensures.is })

pub returns-in-Iadd3 : goal.returns-in-Iadd3
unfolding arm_of emits
returns-in-Iadd3 c = rw c.in-Iadd3.is (record { is = c.iadd3.ensures.is })

pub returns-in-Iscadd : goal.returns-in-Iscadd
unfolding arm_of emits
returns-in-Iscadd c = rw c.in-Iscadd.is (record { is = c.iscadd.ensures.is })

pub returns-in-Xmad : goal.returns-in-Xmad
unfolding arm_of emits
returns-in-Xmad c = rw c.in-Xmad.is (record { is = c.xmad.ensures.is })

pub returns-in-Imnmx : goal.returns-in-Imnmx
unfolding arm_of emits
returns-in-Imnmx c = rw c.in-Imnmx.is (record { is = c.imnmx.ensures.is })

pub returns-in-Icmp : goal.returns-in-Icmp
unfolding arm_of emits
returns-in-Icmp c = rw c.in-Icmp.is (record { is = c.icmp.ensures.is })

pub returns-in-Lop : goal.returns-in-Lop
unfolding arm_of emits
returns-in-Lop c = rw c.in-Lop.is (record { is = c.lop.ensures.is })

pub returns-in-Lop32i : goal.returns-in-Lop32i
unfolding arm_of emits
returns-in-Lop32i c = rw c.in-Lop32i.is (record { is = c.lop32i.ensures.is })

pub returns-in-Lop3 : goal.returns-in-Lop3
unfolding arm_of emits
returns-in-Lop3 c = rw c.in-Lop3.is (record { is = c.lop3_arm.ensures.is })

pub returns-in-Shl : goal.returns-in-Shl
unfolding arm_of emits
returns-in-Shl c = rw c.in-Shl.is (record { is = c.shl.ensures.is })

pub returns-in-Shr : goal.returns-in-Shr
unfolding arm_of emits
returns-in-Shr c = rw c.in-Shr.is (record { is = c.shr.ensures.is })

pub returns-in-Bfe : goal.returns-in-Bfe
unfolding arm_of emits
returns-in-Bfe c = rw c.in-Bfe.is (record { is = c.bfe.ensures.is })

pub returns-in-Bfi : goal.returns-in-Bfi
unfolding arm_of emits
returns-in-Bfi c = rw c.in-Bfi.is (record { is = c.bfi.ensures.is })

pub returns-in-Vmnmx : goal.returns-in-Vmnmx
unfolding arm_of emits
returns-in-Vmnmx c = rw c.in-Vmnmx.is (record { is = c.vmnmx.ensures.is })

pub returns-in-I2i : goal.returns-in-I2i
unfolding arm_of emits
returns-in-I2i c = rw c.in-I2i.is (record { is = c.i2i.ensures.is })

pub returns-in-Flo : goal.returns-in-Flo
unfolding arm_of emits
returns-in-Flo c = rw c.in-Flo.is (record { is = c.flo.ensures.is })

pub returns-in-Popc : goal.returns-in-Popc
unfolding arm_of emits
returns-in-Popc c = rw c.in-Popc.is (record { is = c.popc.ensures.is })

pub returns-in-R2p : goal.returns-in-R2p
unfolding arm_of emits
returns-in-R2p c = rw c.in-R2p.is (record { is = c.r2p.ensures.is })

pub returns-in-P2r : goal.returns-in-P2r
unfolding arm_of emits
returns-in-P2r c = rw c.in-P2r.is (record { is = c.p2r.ensures.is })

pub returns-in-Shf : goal.returns-in-Shf
unfolding arm_of emits
returns-in-Shf c = rw c.in-Shf.is (record { is = c.shf.ensures.is })

pub returns-in-Lea : goal.returns-in-Lea
unfolding arm_of emits
returns-in-Lea c = rw c.in-Lea.is (record { is = c.lea.ensures.is })
