-- Each arm is the phrase of its number; a number that is in none has no phrase.
use Rattle.std.proofs.Common.{arith}
use Rattle.chain.specs.Tests.{◌<?◌}
use Rattle.phrases.specs.Phrases.{phrase}
use Rattle.phrases.proofs.Phrases.{unknown}
use Rattle.phrases.proofs.wording.Goals as goal

pub returns-in-1 : goal.returns-in-1
unfolding phrase ◌<?◌
returns-in-1 c = rw c.in-1.is

pub returns-in-2 : goal.returns-in-2
unfolding phrase ◌<?◌
returns-in-2 c = rw c.in-2.is

pub returns-in-3 : goal.returns-in-3
unfolding phrase ◌<?◌
returns-in-3 c = rw c.in-3.is

pub returns-in-4 : goal.returns-in-4
unfolding phrase ◌<?◌
returns-in-4 c = rw c.in-4.is

pub returns-in-5 : goal.returns-in-5
unfolding phrase ◌<?◌
returns-in-5 c = rw c.in-5.is

pub returns-in-6 : goal.returns-in-6
unfolding phrase ◌<?◌
returns-in-6 c = rw c.in-6.is

pub returns-in-7 : goal.returns-in-7
unfolding phrase ◌<?◌
returns-in-7 c = rw c.in-7.is

pub returns-in-8 : goal.returns-in-8
unfolding phrase ◌<?◌
returns-in-8 c = rw c.in-8.is

pub returns-in-9 : goal.returns-in-9
unfolding phrase ◌<?◌
returns-in-9 c = rw c.in-9.is

pub returns-in-10 : goal.returns-in-10
unfolding phrase ◌<?◌
returns-in-10 c = rw c.in-10.is

pub returns-in-11 : goal.returns-in-11
unfolding phrase ◌<?◌
returns-in-11 c = rw c.in-11.is

pub returns-in-12 : goal.returns-in-12
unfolding phrase ◌<?◌
returns-in-12 c = rw c.in-12.is

pub returns-in-13 : goal.returns-in-13
unfolding phrase ◌<?◌
returns-in-13 c = rw c.in-13.is

pub returns-in-14 : goal.returns-in-14
unfolding phrase ◌<?◌
returns-in-14 c = rw c.in-14.is

pub returns-in-15 : goal.returns-in-15
unfolding phrase ◌<?◌
returns-in-15 c = rw c.in-15.is

pub returns-in-16 : goal.returns-in-16
unfolding phrase ◌<?◌
returns-in-16 c = rw c.in-16.is

pub returns-in-17 : goal.returns-in-17
unfolding phrase ◌<?◌
returns-in-17 c = rw c.in-17.is

pub returns-in-18 : goal.returns-in-18
unfolding phrase ◌<?◌
returns-in-18 c = rw c.in-18.is

pub returns-in-19 : goal.returns-in-19
unfolding phrase ◌<?◌
returns-in-19 c = rw c.in-19.is

pub returns-in-20 : goal.returns-in-20
unfolding phrase ◌<?◌
returns-in-20 c = rw c.in-20.is

pub returns-in-101 : goal.returns-in-101
unfolding phrase ◌<?◌
returns-in-101 c = rw c.in-101.is

pub returns-in-102 : goal.returns-in-102
unfolding phrase ◌<?◌
returns-in-102 c = rw c.in-102.is

pub returns-in-103 : goal.returns-in-103
unfolding phrase ◌<?◌
returns-in-103 c = rw c.in-103.is

pub returns-in-104 : goal.returns-in-104
unfolding phrase ◌<?◌
returns-in-104 c = rw c.in-104.is

pub returns-in-105 : goal.returns-in-105
unfolding phrase ◌<?◌
returns-in-105 c = rw c.in-105.is

pub returns-in-106 : goal.returns-in-106
unfolding phrase ◌<?◌
returns-in-106 c = rw c.in-106.is

pub returns-in-107 : goal.returns-in-107
unfolding phrase ◌<?◌
returns-in-107 c = rw c.in-107.is

pub returns-in_default : goal.returns-in_default
returns-in_default c = unknown c.args.number (λ k some low e. omega arith) (λ k some low e. omega arith)
