pub mod SixteenHost
