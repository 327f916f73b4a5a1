pub mod ThreeTests
